use Rattle.std.proofs.Common.{◌≡◌, ◌++◌, ◌∷◌, [], ◌∙◌, sym, ap, arith}
use Rattle.jc_methods.specs.declared.plan.Plan.{Plan}
use Rattle.jc_plan.specs.Plan.{plan_of}
use Rattle.jc_plan.specs.Probed.{first_id}
use Rattle.jc_plan.proofs.PlacesLaws.{maps_one}
use Rattle.jc_instrument.proofs.PlanningLaws.{first_most, first_more}
use Rattle.jc_instrument.proofs.plans.plans_of.Goals as goal

pub plan-requires-clause-first : goal.plan-requires-clause-first
plan-requires-clause-first c = omega (arith, c.planning.invariant.first, first_most c.args.bodies.now c.planning.body-index c.requires.few)

pub planning-preserved : goal.planning-preserved
planning-preserved c =
    let bodies = c.args.bodies.now in
    let i = c.planning.body-index in
    let b = c.body-item.result in
    let so_far = c.planning.invariant in
    let next : c.in_ok-next.next ≡ plan_of b (first_id bodies i) = c.in_ok-next.ensures ∙ ap (plan_of b) so_far.first in
    record {
      plans = maps_one (λ k x. plan_of x (first_id bodies k)) bodies i b c.planning.plans c.push.new.self c.planning-test.true c.body-item.is so_far.plans
          (c.in_ok-push.ensures.ok ∙ ap (λ (p : Plan). c.planning.plans ++ p ∷ []) next);
      first = ap (λ (p : Plan). p.next) next ∙ sym (first_more bodies i b c.planning-test.true c.body-item.is);
    }
