use Rattle.jc_machine_code.specs.Places.{same_member, is_static_field}
use Rattle.jc_machine_code.proofs.PlaceLaws.{all_noted}
use Rattle.jc_machine_code.proofs.places.static_places.Goals as goal

pub returns : goal.returns
returns c = all_noted same_member is_static_field c.args.statics.now c.noting.number c.noting.places.entries c.noting-test.false c.noting.invariant.1
