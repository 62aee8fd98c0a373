-- Texts that are no run plan.
use Rattle.std.proofs.Common.{List, ℕ, refl}
use Rattle.std.specs.Borrow.{Bor}
use Rattle.jc_bytes.specs.declared.fail.Fail.{Fail}
use Rattle.jc_bytes.specs.declared.fail.Fail.TheVariants as fails
use Rattle.jc_bytes.specs.Failing.{Said}
use Rattle.jc_run_plans.specs.Plans.{FirstUnfit}
use Rattle.jc_run_plans.specs.declared.plan_refusal.PlanRefusal.{PlanRefusal}
use Rattle.jc_command_work.specs.Seen.{stop_seen}
use Rattle.jc_command_run.specs.PlanStops.{plan_stop, PlanStops}

-- what stops the command is the first line that doesn't fit
pub stops_so : (fail : Fail PlanRefusal) (plan : Bor (List ℕ)) (text : List ℕ) → Said fail (λ (r : PlanRefusal). FirstUnfit text r.line) → PlanStops plan.now text (stop_seen (plan_stop fail plan))
stops_so fails.Memory plan text said = tt
stops_so (fails.Said refusal) plan text said = (refusal.line, said, refl)
