use Rattle.jc_programs.specs.declared.program.Program.{Program}
use Rattle.jc_programs.specs.declared.program.Linked.{Linked}
use Rattle.jc_machine_code.specs.Prepared.{IsPreparedMethod}
use Rattle.jc_machine_code.specs.Sites.{IsClassIndex, IsIndex}
use Rattle.jc_machine_code.proofs.CorrespondLaws.{BuiltTo}
use Rattle.jc_machine_code.proofs.prepare.prepared_methods.Given as goal

abbrev pub invariant-preparing : goal.invariant-preparing
invariant-preparing l = (program : Program) (linked : Linked) → IsIndex program l.index → IsClassIndex l.class linked l.members
    → BuiltTo (IsPreparedMethod program l.class linked) l.bodies l.body-index l.methods
