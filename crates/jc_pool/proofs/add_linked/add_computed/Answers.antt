use Rattle.std.proofs.Common.{inl, refl, subst}
use Rattle.jc_pool.specs.Pool.{PoolValue}
use Rattle.jc_pool.specs.Lookup.{computed_of}
use Rattle.jc_pool.specs.Adding.{IsFirst, IsNowhere}
use Rattle.jc_pool.specs.Index.{computed}
use Rattle.jc_pool.proofs.add_linked.add_computed.Goals as goal

pub returns-in-Some-clause-ok : goal.returns-in-Some-clause-ok
returns-in-Some-clause-ok c =
    inl (subst (λ (l : PoolValue). IsFirst (computed_of l) (computed c.args.c.now) c.in-Some.place) c.deref.ensures.value c.in-Some.ensures.first, refl)

pub add_new_computed-requires-clause-new : goal.add_new_computed-requires-clause-new
add_new_computed-requires-clause-new c =
    subst (λ (l : PoolValue). IsNowhere (computed_of l) (computed c.args.c.now)) c.deref.ensures.value c.in_default.ensures.none
