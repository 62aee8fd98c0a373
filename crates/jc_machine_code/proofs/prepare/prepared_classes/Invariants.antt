use Rattle.std.proofs.Common.{◌≡◌, length}
use Rattle.jc_programs.specs.declared.program.Program.{Program}
use Rattle.jc_machine_code.specs.Sites.{IsIndex, IsPreparedFrom}
use Rattle.jc_machine_code.proofs.CorrespondLaws.{BuiltTo}
use Rattle.jc_machine_code.proofs.prepare.prepared_classes.Given as goal

abbrev pub invariant-preparing : goal.invariant-preparing
invariant-preparing l = (length l.classes ≡ l.members-index)
    × ((program : Program) → IsIndex program l.index → BuiltTo (IsPreparedFrom program) l.all l.members-index l.classes)
