use Rattle.jc_methods.specs.Widened.{listed}
use Rattle.jc_layout.proofs.OffsetLaws.{IsPlaced}
use Rattle.jc_layout.proofs.offsets.offsets.Given as goal

-- the offsets of the instructions so far
abbrev pub invariant-placing : goal.invariant-placing
invariant-placing l = IsPlaced (listed l.wide) l.code l.number l.at l.starts.items
