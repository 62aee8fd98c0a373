use Rattle.jc_machine_code.specs.Places.{same_name, class_has}
use Rattle.jc_machine_code.proofs.PlaceLaws.{all_noted}
use Rattle.jc_machine_code.proofs.places.class_places.Goals as goal

pub returns : goal.returns
returns c = all_noted same_name class_has c.args.classes.now c.noting.number c.noting.places.entries c.noting-test.false c.noting.invariant.1
