use Rattle.std.proofs.Common.{arith}
use Rattle.jc_command_sample.proofs.PlanLaws.{case_more, plan_is}
use Rattle.jc_command_sample.proofs.plan.sample_plan.Goals as goal

pub planning-preserved : goal.planning-preserved
planning-preserved c =
    case_more c.args.methods c.planning.number c.planning.cases c.push.new.self c.in_ok-sample_case.field-0 c.planning.invariant c.in_ok-sample_case.ensures c.in_ok-push.ensures.ok

pub returns : goal.returns
returns c = plan_is c.args.methods c.planning.number c.planning.cases (omega arith) c.planning.invariant
