use Rattle.jc_layout.proofs.JumpListsLaws.{AreRisenSoFar}
use Rattle.jc_layout.proofs.shift.raise.Given as goal

-- the offsets so far have risen
abbrev pub invariant-raising : goal.invariant-raising
invariant-raising l = AreRisenSoFar l.shift l.jumps l.fn.ends l.ends l.place
