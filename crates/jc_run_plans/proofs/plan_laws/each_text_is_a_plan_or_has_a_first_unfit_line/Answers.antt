use Rattle.jc_run_plans.specs.PlanWords.{numbered_lines}
use Rattle.jc_run_plans.proofs.PlanLaws.{each_text, no_unfit_plan, one_plan, one_first_unfit}
use Rattle.jc_run_plans.proofs.plan_laws.each_text_is_a_plan_or_has_a_first_unfit_line.Goals as goal

pub returns : goal.returns
returns c = record { each = each_text; apart = no_unfit_plan; one_plan = λ text p q. one_plan (numbered_lines text) p q; one_line = one_first_unfit }
