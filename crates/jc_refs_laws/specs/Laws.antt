-- What the reference check says of runs and of twins.
use Rattle.std.specs.Prelude.{ℕ, List}
use Rattle.jc_programs.specs.declared.program.Program.{Program}
use Rattle.jc_programs.specs.declared.run_plan.Case.{Case}
use Rattle.jc_programs.specs.declared.run_end.Entry.{Entry}
use Rattle.jc_programs.specs.Entries.{AreEntries}
use Rattle.jc_twin_programs.specs.TwinProgram.{TwinProgram}
use Rattle.jc_machine_model.specs.Programs.{IsProgram}
use Rattle.jc_machine_model.specs.Run.{run}
use Rattle.jc_refs_check.specs.RefsOk.{RefsOk}
use Rattle.jc_refs_check.specs.Wrong.{WrongReference}

-- No thread of a world of a run stands at an instruction with a reference of a wrong kind.
abbrev pub RefsSound : Program → Case → Type 0
RefsSound program case =
    IsProgram program → RefsOk program → (entries : List Entry) → AreEntries program case.threads entries
    → (turns : List ℕ) (t : ℕ) → WrongReference program (run program case turns) t → ⊥

-- The twin of a program that passes the reference check passes it too.
abbrev pub RefsKept : Program → Program → Type 0
RefsKept before after = TwinProgram before after → RefsOk before → RefsOk after
