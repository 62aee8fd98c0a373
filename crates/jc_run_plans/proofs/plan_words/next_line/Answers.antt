use Rattle.jc_run_plans.proofs.PlanWordsLaws.{lines_more}
use Rattle.jc_run_plans.proofs.plan_words.next_line.Goals as goal

pub returns-in-Some-clause-lines : goal.returns-in-Some-clause-lines
returns-in-Some-clause-lines c =
    rw c.strip_carriage_return.ensures (lines_more c.args.text.now c.cut_at.result.0.now c.in-Some.rest.now (rw c.in-Some.is at c.cut_at.ensures.parts))
