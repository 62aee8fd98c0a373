-- The methods with which the threads of a run plan begin.
use Rattle.std.proofs.Common.{◌≡◌, ◌⊎◌, inl, inr, List, [], ◌∷◌, ◌++◌, Option, None, Some, option_map, Contains, subst}
use Rattle.std.proofs.lemmas.List.Concat.{flat_map-cons}
use Rattle.std.proofs.lemmas.List.Elements.{All-weaker}
use Rattle.jc_bytes.proofs.BooleanLaws.{which_in, none_in}
use Rattle.jc_programs.specs.declared.program.Program.{Program}
use Rattle.jc_programs.specs.declared.program.Linked.{Linked}
use Rattle.jc_programs.specs.declared.run_end.Entry.{Entry}
use Rattle.jc_programs.specs.declared.run_plan.Case.{Case}
use Rattle.jc_programs.specs.declared.run_plan.RunPlan.{RunPlan}
use Rattle.jc_programs.specs.declared.run_plan.ThreadLine.{ThreadLine}
use Rattle.jc_programs.specs.Entries.{AreEntries}
use Rattle.jc_machine_model.specs.Programs.{IsLinked, IsProgram}
use Rattle.jc_workers.specs.Cases.{HaveEntries}
use Rattle.jc_command_run.specs.RunStore.{threads_of, first_without}
use Rattle.jc_command_run.specs.Beginnings.{HasFew, line_of}
use Rattle.jc_command_run.proofs.BeginningLaws.{threads_in, all_entries, front_none, none_in_front}

-- a program's classes and methods have numbers of four bytes
pub has_few : (p : Program) → IsProgram p → HasFew p
has_few p is = record { classes = is.few; methods = All-weaker (IsLinked p.names) _ (λ (c : Linked) linked. linked.few_bodies) p.classes is.classes }

-- where no line is named, no thread lacks a method
pub none_without : (p : Program) (threads : List ThreadLine) → None ≡ option_map line_of (first_without p threads) → first_without p threads ≡ None
none_without p threads = by (first_without p threads)
  where
    by : (o : Option ThreadLine) → None ≡ option_map line_of o → o ≡ None
    by None e = λ i. None
    by (Some t) e = cc

module _ (p : Program) where
  case_entries : (cases : List Case) → first_without p (threads_in cases) ≡ None → (case : Case) → Contains cases case → (entries : List Entry) × AreEntries p case.threads entries
  case_entries [] none case there = absurd (none_in case there)
  case_entries (c ∷ cases) none case there = by (which_in c cases case there) (case_entries cases behind case)
    where
      whole : first_without p (c.threads ++ threads_in cases) ≡ None
      whole = subst (λ (ts : List ThreadLine). first_without p ts ≡ None) (flat_map-cons (λ (k : Case). k.threads) c cases) none

      front : first_without p c.threads ≡ None
      front = front_none p c.threads (threads_in cases) whole

      behind : first_without p (threads_in cases) ≡ None
      behind = subst (λ (o : Option ThreadLine). o ≡ None) (none_in_front p c.threads (threads_in cases) front) whole

      by : (c ≡ case) ⊎ Contains cases case → (Contains cases case → (entries : List Entry) × AreEntries p case.threads entries) → (entries : List Entry) × AreEntries p case.threads entries
      by (inl same) later = subst (λ (k : Case). (entries : List Entry) × AreEntries p k.threads entries) same (all_entries p c.threads front)
      by (inr there) later = later there

  -- where no thread lacks a method, each case has its entries
  pub have_entries : (plan : RunPlan) → first_without p (threads_of plan) ≡ None → HaveEntries p plan
  have_entries plan none case there = case_entries plan.cases none case there
