use Rattle.std.proofs.Common.{◌≤◌, length}
use Rattle.jc_machine_code.specs.Places.{same_member, is_method}
use Rattle.jc_machine_code.proofs.PlaceLaws.{AreFrom}
use Rattle.jc_machine_code.proofs.places.method_places.Given as goal

abbrev pub invariant-noting : goal.invariant-noting
invariant-noting l = (l.number ≤ length l.bodies) × AreFrom same_member is_method l.bodies l.number l.places.entries

abbrev pub decreases-noting : goal.decreases-noting
decreases-noting l = l.number
