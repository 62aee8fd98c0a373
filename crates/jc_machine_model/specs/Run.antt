-- Runs: turns one after another, and the probes that they hit.
use Rattle.std.specs.Prelude.{ℕ, List, [], ◌∷◌, Contains}
use Rattle.std.specs.List.{flat_map}
use Rattle.jc_programs.specs.declared.program.Program.{Program}
use Rattle.jc_programs.specs.declared.run_plan.Case.{Case}
use Rattle.jc_programs.specs.declared.run_plan.RunPlan.{RunPlan}
use Rattle.jc_programs.specs.Turns.{turns_in}
use Rattle.jc_machine_model.specs.World.{Hit, World}
use Rattle.jc_machine_model.specs.Step.{step}
use Rattle.jc_machine_model.specs.Begin.{begin_case}

-- ---- runs

-- these turns, one after another
abbrev pub run_from : Program → World → List ℕ → World
run_from program w [] = w
run_from program w (t ∷ turns) = run_from program (step program w t) turns

abbrev pub run : Program → Case → List ℕ → World
run program case turns = run_from program (begin_case program case) turns

-- ---- hits

-- the run of some case of the run plan, with the turns of its schedule, hits the probe
abbrev pub IsHit : Program → RunPlan → Hit → Type 0
IsHit program plan hit = (case : Case) × Contains plan.cases case × Contains (run program case (turns_in case)).hits hit

abbrev pub case_hits : Program → Case → List Hit
case_hits program case = (run program case (turns_in case)).hits

-- the same as a list
abbrev pub hits_of : Program → RunPlan → List Hit
hits_of program plan = flat_map (case_hits program) plan.cases
