use Rattle.jc_machine_model.specs.Begin.{first_value}
use Rattle.jc_machine_code.specs.Prepared.{value_of}
use Rattle.jc_machine_code.proofs.TypeLaws.{IsFirstValue}
use Rattle.jc_machine_code.proofs.CorrespondLaws.{same_map, built_all}
use Rattle.jc_machine_code.proofs.types.first_values.Goals as goal

pub returns : goal.returns
returns c =
    same_map first_value value_of c.args.statics.now c.preparing.values
    (built_all IsFirstValue c.args.statics.now c.preparing.field-index c.preparing.values c.preparing-test.false c.preparing.auto.field-index-end c.preparing.invariant)
