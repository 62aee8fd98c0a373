use Rattle.jc_plan.proofs.MarkLaws.{CallsMarked}
use Rattle.jc_plan.proofs.lines.lines_that_call.Given as goal

-- the instructions from `at` on are marked
abbrev pub invariant-marking : goal.invariant-marking
invariant-marking l = CallsMarked l.lines l.code l.at l.marks.items l.calls

abbrev pub decreases-marking : goal.decreases-marking
decreases-marking l = l.at
