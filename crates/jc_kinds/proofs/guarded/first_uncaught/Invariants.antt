use Rattle.std.proofs.Common.{take}
use Rattle.jc_kinds.specs.First.{IsFirstOrBound}
use Rattle.jc_kinds.specs.Guarded.{IsUncaught}
use Rattle.jc_kinds.proofs.guarded.first_uncaught.Given as goal

-- the first place by the rows so far
abbrev pub invariant-catching : goal.invariant-catching
invariant-catching l = IsFirstOrBound (IsUncaught l.framed.body.now.frames (take l.handler-index l.handlers)) l.bound l.first
