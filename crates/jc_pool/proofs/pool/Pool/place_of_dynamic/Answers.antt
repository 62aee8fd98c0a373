use Rattle.std.proofs.Common.{subst}
use Rattle.jc_pool.specs.Pool.{PoolValue}
use Rattle.jc_pool.specs.Adding.{HasComputed, bootstrap_constant, WouldStand}
use Rattle.jc_pool.proofs.pool.Pool.place_of_dynamic.Goals as goal

pub returns-in-Some-clause-place : goal.returns-in-Some-clause-place
returns-in-Some-clause-place c =
    let what = bootstrap_constant c.args.bootstrap c.args.name.now c.args.desc.now in
    subst (λ (l : PoolValue). WouldStand (HasComputed l what) c.planned_computed.result.place c.planned_computed.result.count) c.slots-slots.ensures.slots c.planned_computed.ensures.place

pub returns-clause-place : goal.returns-clause-place
returns-clause-place c =
    let what = bootstrap_constant c.args.bootstrap c.args.name.now c.args.desc.now in
    subst (λ (l : PoolValue). WouldStand (HasComputed l what) c.planned_computed-2.result.place c.planned_computed-2.result.count) c.slots-slots.ensures.slots c.planned_computed-2.ensures.place
