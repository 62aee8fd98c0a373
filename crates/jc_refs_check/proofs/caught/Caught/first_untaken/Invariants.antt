use Rattle.std.proofs.Common.{take}
use Rattle.jc_kinds.specs.First.{IsFirstOrBound}
use Rattle.jc_refs_check.proofs.UntakenLaws.{IsUntakenIn}
use Rattle.jc_refs_check.proofs.caught.Caught.first_untaken.Given as goal

-- the first of the rows so far
abbrev pub invariant-catching : goal.invariant-catching
invariant-catching l = IsFirstOrBound (IsUntakenIn l.classes.names l.body (take l.row-index l.body.handlers)) l.bound l.first
