use Rattle.std.proofs.Common.{vec_len}
use Rattle.jc_dump.proofs.OrderLaws.{ArePlaced}
use Rattle.jc_dump.proofs.in_order.in_order.Given as goal

abbrev pub invariant-placing : goal.invariant-placing
invariant-placing l = ArePlaced l.count l.fn.taken.items l.taken.items l.places.items

abbrev pub decreases-placing : goal.decreases-placing
decreases-placing l = vec_len l.taken
