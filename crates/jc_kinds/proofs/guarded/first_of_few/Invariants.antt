use Rattle.std.proofs.Common.{length}
use Rattle.jc_kinds.specs.First.{IsFirstOrBound}
use Rattle.jc_kinds.specs.Guarded.{IsUnguarded}
use Rattle.jc_kinds.proofs.guarded.first_of_few.Given as goal

-- the first place by the local variables so far
abbrev pub invariant-slots : goal.invariant-slots
invariant-slots l = IsFirstOrBound (IsUnguarded l.states l.framed.body.now.frames l.handlers l.slot) (length l.states) l.first
