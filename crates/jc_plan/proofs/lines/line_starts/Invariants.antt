use Rattle.std.proofs.Common.{take}
use Rattle.jc_plan.proofs.MarkLaws.{StartsMarked}
use Rattle.jc_plan.proofs.lines.line_starts.Given as goal

-- the starts of the lines so far are marked
abbrev pub invariant-marking : goal.invariant-marking
invariant-marking l = StartsMarked (take l.line-index l.lines) l.count l.marks.items
