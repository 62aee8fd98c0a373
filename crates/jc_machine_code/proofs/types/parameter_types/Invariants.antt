use Rattle.jc_machine_code.proofs.TypeLaws.{IsKindOf}
use Rattle.jc_machine_code.proofs.CorrespondLaws.{BuiltTo}
use Rattle.jc_machine_code.proofs.types.parameter_types.Given as goal

abbrev pub invariant-preparing : goal.invariant-preparing
invariant-preparing l = BuiltTo IsKindOf l.values l.value-index l.kinds
