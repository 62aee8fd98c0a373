-- Turns of an original as turns of its twin.
use Rattle.std.specs.Prelude.{ℕ, List}
use Rattle.jc_programs.specs.declared.program.Program.{Program}
use Rattle.jc_programs.specs.declared.run_end.Entry.{Entry}
use Rattle.jc_machine_model.specs.World.{World}
use Rattle.jc_machine_model.specs.Step.{step}
use Rattle.jc_emit.specs.Marks.{Marks}
use Rattle.jc_twin_simulation.specs.Schedules.{IsSpreadBy}
use Rattle.jc_twin_simulation.specs.Kept.{runs, is_kept}

-- In front of each turn of a thread that runs stand as many turns of it as bring it to an own instruction. Turns of other threads
-- are left out.
abbrev pub IsSpread : Program → (Entry → Marks) → World → (q turns : List ℕ) → Type 0
IsSpread p' marks w q turns = IsSpreadBy (step p') (is_kept p' marks) runs w q turns
