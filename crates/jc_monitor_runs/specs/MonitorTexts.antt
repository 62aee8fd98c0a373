-- What cases print and hit whose threads take locks.
use Rattle.std.specs.Prelude.{ℕ, ◌+◌, List, [], ◌∷◌, ◌++◌}
use Rattle.std.specs.List.{flat_map}
use Rattle.jc_programs.specs.declared.program.Program.{Program}
use Rattle.jc_programs.specs.declared.run_end.CaseEnd.{CaseEnd}
use Rattle.jc_programs.specs.declared.run_plan.Case.{Case}
use Rattle.jc_programs.specs.declared.run_plan.RunPlan.{RunPlan}
use Rattle.jc_programs.specs.Turns.{turns_in}
use Rattle.jc_machine_model.specs.CaseEnds.{case_end_in}
use Rattle.jc_machine_model.specs.CaseText.{case_text}
use Rattle.jc_machine_model.specs.World.{Hit, World}
use Rattle.jc_monitor_model.specs.MonitorRun.{monitor_run}

-- the world that a case leaves by its own schedule
abbrev pub monitor_last : Program → Case → World
monitor_last program case = (monitor_run program case (turns_in case)).world

abbrev pub monitor_case_end : Program → Case → CaseEnd
monitor_case_end program case = case_end_in program (monitor_last program case)

-- the texts of cases, from one with this number on
abbrev pub monitor_texts : Program → ℕ → List Case → List ℕ
monitor_texts program k [] = []
monitor_texts program k (case ∷ cases) = case_text program k (monitor_case_end program case) ++ monitor_texts program (k + 1) cases

abbrev pub monitor_case_hits : Program → Case → List Hit
monitor_case_hits program case = (monitor_last program case).hits

-- what the cases of the run plan hit
abbrev pub monitor_hits_of : Program → RunPlan → List Hit
monitor_hits_of program plan = flat_map (monitor_case_hits program) plan.cases
