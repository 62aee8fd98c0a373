use Rattle.std.proofs.Common.{◌≡◌, take}
use Rattle.jc_bytes.specs.PlainLists.{map_from}
use Rattle.jc_plan.specs.Plan.{plan_of}
use Rattle.jc_plan.specs.Probed.{first_id}
use Rattle.jc_instrument.proofs.plans.plans_of.Given as goal

-- the bodies so far have their plans
abbrev pub invariant-planning : goal.invariant-planning
invariant-planning l = record {
  plans : l.plans ≡ map_from (λ i b. plan_of b (first_id l.bodies i)) 0 (take l.body-index l.bodies);
  first : l.first ≡ first_id l.bodies l.body-index;
}
