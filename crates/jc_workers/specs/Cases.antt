-- The cases of a run plan: what each leaves, and which probes it hits.
use Rattle.std.specs.Prelude.{◌≡◌, ℕ, ◌↔◌, List, [], map, Contains, slice_index_or}
use Rattle.jc_programs.specs.declared.program.Program.{Program}
use Rattle.jc_programs.specs.declared.run_plan.Case.{Case}
use Rattle.jc_programs.specs.declared.run_plan.RunPlan.{RunPlan}
use Rattle.jc_programs.specs.declared.run_plan.Schedule.TheVariants as schedules
use Rattle.jc_programs.specs.declared.run_end.CaseEnd.{CaseEnd}
use Rattle.jc_programs.specs.declared.run_end.Entry.{Entry}
use Rattle.jc_programs.specs.Entries.{AreEntries}
use Rattle.jc_programs.specs.Turns.{IsRunPlan, turns_in}
use Rattle.jc_machine_model.specs.Programs.{IsProgram}
use Rattle.jc_machine_model.specs.CaseEnds.{case_end}
use Rattle.jc_machine_model.specs.Begin.{entries_of}
use Rattle.jc_machine_model.specs.Run.{case_hits, IsHit}

-- each thread of each case begins with a method
abbrev pub HaveEntries : Program → RunPlan → Type 0
HaveEntries program plan = (case : Case) → Contains plan.cases case → (entries : List Entry) × AreEntries program case.threads entries

-- what a case leaves under its own turns
abbrev pub end_under : Program → Case → CaseEnd
end_under program case = case_end program case (turns_in case)

-- what the cases of a run plan leave, in their order
abbrev pub ends_under : Program → RunPlan → List CaseEnd
ends_under program plan = map (end_under program) plan.cases

-- a case without threads and turns
abbrev pub no_case : Case
no_case = record { threads = []; schedule = schedules.Robin 0 }

abbrev pub case_at : RunPlan → ℕ → Case
case_at plan k = slice_index_or plan.cases k no_case

-- the case with a number hits the probe of the class
abbrev pub HitBy : Program → RunPlan → (k class id : ℕ) → Type 0
HitBy program plan k class id = Contains (case_hits program (case_at plan k)) (record { class = class; id = id })

-- the hits, by class and id, are exactly those of the run plan
abbrev pub AreHits : Program → RunPlan → List (ℕ × ℕ) → Type 0
AreHits program plan hits = (class id : ℕ) → Contains {X = ℕ × ℕ} hits (class, id) ↔ IsHit program plan (record { class = class; id = id })

-- a program, a run plan each of whose threads has an entry, and the entries of each case
pub record IsRunnable (program : Program) (plan : RunPlan) (entries : List (List Entry)) : Type 0 where
  pub program_is : IsProgram program
  pub plan_is : IsRunPlan plan
  pub have_entries : HaveEntries program plan
  pub entries_are : entries ≡ map (λ (case : Case). entries_of program case.threads) plan.cases
