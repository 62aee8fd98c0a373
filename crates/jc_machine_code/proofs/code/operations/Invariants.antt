use Rattle.std.proofs.Common.{◌≡◌, length}
use Rattle.jc_programs.specs.declared.program.Program.{Program}
use Rattle.jc_machine_model.specs.Profile.{Location}
use Rattle.jc_machine_code.specs.Prepared.{TellsInsn}
use Rattle.jc_machine_code.specs.Sites.{IsSite}
use Rattle.jc_machine_code.proofs.CorrespondLaws.{BuiltTo}
use Rattle.jc_machine_code.proofs.code.operations.Given as goal

abbrev pub invariant-preparing : goal.invariant-preparing
invariant-preparing l = (length l.operations ≡ l.insn-index)
    × ((program : Program) (at : Location) → IsSite program at l.site → BuiltTo (TellsInsn program at.class at.linked at.body) l.code l.insn-index l.operations)
