use Rattle.std.proofs.Common.{◌≤◌, length}
use Rattle.jc_machine_code.proofs.PlaceLaws.{AreWhatsFrom}
use Rattle.jc_machine_code.proofs.places.whats.Given as goal

abbrev pub invariant-noting : goal.invariant-noting
invariant-noting l = (l.number ≤ length l.uses) × AreWhatsFrom l.uses l.number l.whats.entries

abbrev pub decreases-noting : goal.decreases-noting
decreases-noting l = l.number
