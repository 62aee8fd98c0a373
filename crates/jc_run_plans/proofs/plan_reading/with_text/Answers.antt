use Rattle.std.proofs.Common.{sym}
use Rattle.jc_run_plans.specs.PlanWords.{words_of}
use Rattle.jc_run_plans.proofs.PlanLineLaws.{opening_gives, case_gives}
use Rattle.jc_run_plans.proofs.plan_reading.with_text.Goals as goal

pub returns-in-None-clause-gives : goal.returns-in-None-clause-gives
returns-in-None-clause-gives c =
    opening_gives c.opened.result c.args.begun c.args.number (words_of c.args.line.now) (words_of c.in-Some.rest.now) c.in-Some.word.now
    c.in-Some.ensures.words (sym c.if-is_comment.ensures) c.in-None.is c.opened.ensures.gives

pub returns-in-Some-threads-clause-gives : goal.returns-in-Some-threads-clause-gives
returns-in-Some-threads-clause-gives c =
    case_gives c.continued.result c.args.begun c.in-Some-threads.threads c.args.number (words_of c.args.line.now) (words_of c.in-Some.rest.now)
    c.in-Some.word.now c.in-Some.ensures.words (sym c.if-is_comment.ensures) c.in-Some-threads.is c.continued.ensures.gives
