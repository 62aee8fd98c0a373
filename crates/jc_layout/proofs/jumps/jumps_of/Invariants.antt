use Rattle.jc_layout.proofs.JumpListsLaws.{AreListedFrom}
use Rattle.jc_layout.proofs.jumps.jumps_of.Given as goal

-- the jumps from `number` on, and the first switch there
abbrev pub invariant-listing : goal.invariant-listing
invariant-listing l = AreListedFrom l.code l.number l.switch l.jumps.items

abbrev pub decreases-listing : goal.decreases-listing
decreases-listing l = l.number
