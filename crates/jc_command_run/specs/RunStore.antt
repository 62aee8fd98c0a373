-- The execution data of a run plan, and the threads that it begins with.
use Rattle.std.specs.Prelude.{ℕ, ◌+◌, Bool, ◌&&◌, not, List, [], ◌∷◌, map, Option, Some, None, is_some, nat_eq, find, filter}
use Rattle.std.specs.List.{flat_map, list_any, range_with_len}
use Rattle.jc_programs.specs.declared.program.Program.{Program}
use Rattle.jc_programs.specs.declared.program.Linked.{Linked}
use Rattle.jc_programs.specs.declared.program.ProbeInit.{ProbeInit}
use Rattle.jc_programs.specs.declared.run_plan.Case.{Case}
use Rattle.jc_programs.specs.declared.run_plan.RunPlan.{RunPlan}
use Rattle.jc_programs.specs.declared.run_plan.ThreadLine.{ThreadLine}
use Rattle.jc_programs.specs.Entries.{entry_of}
use Rattle.jc_exec.specs.declared.hits.ClassHits.{ClassHits}
use Rattle.jc_exec.specs.Store.{Store}
use Rattle.jc_exec.specs.Writing.{is_hit}
use Rattle.jc_machine_model.specs.Run.{hits_of}
use Rattle.jc_machine_model.specs.World.{Hit}

-- ---- threads

-- all threads of a run plan, in the order of its lines
abbrev pub threads_of : RunPlan → List ThreadLine
threads_of plan = flat_map (λ (c : Case). c.threads) plan.cases

abbrev pub lacks_entry : Program → ThreadLine → Bool
lacks_entry program thread = not (is_some (entry_of program thread))

-- the first thread that has no method to begin with
abbrev pub first_without : Program → List ThreadLine → Option ThreadLine
first_without program threads = find (lacks_entry program) threads

-- ---- execution data

-- the probe of this class with this id is among the hits
abbrev pub is_hit_in : List Hit → (class id : ℕ) → Bool
is_hit_in hits class id = list_any (λ (h : Hit). nat_eq h.class class && nat_eq h.id id) hits

-- the record of a class with probes: each bit says whether the probe with its number was hit
abbrev pub hit_record : List Hit → (class : ℕ) → Linked → ProbeInit → ClassHits
hit_record hits class c init = record { id = init.id; name = c.name; bits = map (is_hit_in hits class) (range_with_len 0 init.count) }

-- in front of the records behind it, if the class has probes
abbrev pub with_record : List Hit → (class : ℕ) → Linked → Option ProbeInit → List ClassHits → List ClassHits
with_record hits class c None records = records
with_record hits class c (Some init) records = hit_record hits class c init ∷ records

-- one for each class with probes, in the order of the classes
abbrev pub hit_records : List Hit → (class : ℕ) → List Linked → List ClassHits
hit_records hits class [] = []
hit_records hits class (c ∷ classes) = with_record hits class c c.probes (hit_records hits (class + 1) classes)

-- Hits of a program as a file of execution data holds them: the records that have one. No session, since there is no clock.
abbrev pub store_of : Program → List Hit → Store
store_of program hits = record { sessions = []; classes = filter is_hit (hit_records hits 0 program.classes) }

-- what the cases of a run plan hit
abbrev pub run_store : Program → RunPlan → Store
run_store program plan = store_of program (hits_of program plan)
