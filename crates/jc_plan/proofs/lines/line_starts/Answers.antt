use Rattle.jc_plan.proofs.MarkLaws.{starts_end}
use Rattle.jc_plan.proofs.lines.line_starts.Goals as goal

pub returns : goal.returns
returns c = starts_end c.args.lines.now c.marking.line-index c.args.count c.marking.marks.items c.marking-test.false c.marking.invariant
