use Rattle.jc_plan.proofs.MarkLaws.{calls_begin, calls_end}
use Rattle.jc_plan.proofs.lines.lines_that_call.Goals as goal

pub marking-init : goal.marking-init
marking-init c = calls_begin c.args.lines.now c.args.code.now c.in_ok-marks.marks.items c.in_ok-marks.ensures

pub returns : goal.returns
returns c = calls_end c.args.lines.now c.args.code.now c.marking.at c.marking.marks.items c.marking.calls c.marking.invariant c.marking-test.false
