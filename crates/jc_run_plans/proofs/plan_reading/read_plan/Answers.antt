use Rattle.jc_run_plans.proofs.PlanAnswerLaws.{answer_is_plan, answer_fits, answer_refuses, plan_is_answered, line_is_answered}
use Rattle.jc_run_plans.proofs.plan_reading.read_plan.Goals as goal

pub returns : goal.returns
returns c = record {
  plan = answer_is_plan c.args.text.now c.plan_read.result c.plan_read.ensures;
  fits = answer_fits c.args.text.now c.plan_read.result c.plan_read.ensures;
  refused = answer_refuses c.args.text.now c.plan_read.result c.plan_read.ensures;
  accepted = plan_is_answered c.args.text.now c.plan_read.result c.plan_read.ensures;
  reason = line_is_answered c.args.text.now c.plan_read.result c.plan_read.ensures;
}
