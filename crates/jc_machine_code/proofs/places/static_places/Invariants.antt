use Rattle.std.proofs.Common.{◌≤◌, length}
use Rattle.jc_machine_code.specs.Places.{same_member, is_static_field}
use Rattle.jc_machine_code.proofs.PlaceLaws.{AreFrom}
use Rattle.jc_machine_code.proofs.places.static_places.Given as goal

abbrev pub invariant-noting : goal.invariant-noting
invariant-noting l = (l.number ≤ length l.statics) × AreFrom same_member is_static_field l.statics l.number l.places.entries

abbrev pub decreases-noting : goal.decreases-noting
decreases-noting l = l.number
