-- What holds of the first world of a case, and of a turn of a thread that has ended.
use Rattle.std.specs.Prelude.{◌≡◌, ⊤, ℕ, List, Some, slice_get}
use Rattle.jc_programs.specs.declared.program.Program.{Program}
use Rattle.jc_programs.specs.declared.run_plan.Case.{Case}
use Rattle.jc_programs.specs.declared.run_end.Entry.{Entry}
use Rattle.jc_programs.specs.Entries.{AreEntries}
use Rattle.jc_machine_model.specs.Programs.{IsProgram}
use Rattle.jc_machine_model.specs.World.{Thread, running, World}
use Rattle.jc_machine_model.specs.Step.{step}
use Rattle.jc_machine_model.specs.Begin.{begin}
use Rattle.jc_machine_model.specs.Fits.{FitsWorld}

-- the thread has ended or is stuck
abbrev pub IsOver : Thread → Type 0
IsOver (running f waiting) = ⊥
IsOver _ = ⊤

-- its turn changes nothing
abbrev pub EndedStays : Type 0
EndedStays = (program : Program) (w : World) (t : ℕ) (thread : Thread) → slice_get w.threads t ≡ Some thread → IsOver thread → step program w t ≡ w

-- the world in which a case begins fits
abbrev pub BeginFits : Type 0
BeginFits =
    (program : Program) (case : Case) (entries : List Entry) → IsProgram program → AreEntries program case.threads entries
    → FitsWorld program (begin program case.threads entries)
