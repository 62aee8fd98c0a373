use Rattle.jc_machine_code.proofs.TypeLaws.{IsFirstValue}
use Rattle.jc_machine_code.proofs.CorrespondLaws.{BuiltTo}
use Rattle.jc_machine_code.proofs.types.first_values.Given as goal

abbrev pub invariant-preparing : goal.invariant-preparing
invariant-preparing l = BuiltTo IsFirstValue l.statics l.field-index l.values
