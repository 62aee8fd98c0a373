use Rattle.std.proofs.Common.{◌≤◌, length}
use Rattle.jc_machine_code.specs.Places.{same_name, class_has}
use Rattle.jc_machine_code.proofs.PlaceLaws.{AreFrom}
use Rattle.jc_machine_code.proofs.places.class_places.Given as goal

abbrev pub invariant-noting : goal.invariant-noting
invariant-noting l = (l.number ≤ length l.classes) × AreFrom same_name class_has l.classes l.number l.places.entries

abbrev pub decreases-noting : goal.decreases-noting
decreases-noting l = l.number
