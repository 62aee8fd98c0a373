use Rattle.jc_run_plans.specs.PlanWords.{numbered_lines}
use Rattle.jc_run_plans.proofs.PlanLineLaws.{plan_fits}
use Rattle.jc_run_plans.proofs.plan_laws.each_plan_fits.Goals as goal

pub returns : goal.returns
returns c = λ text plan p. plan_fits (numbered_lines text) plan p
