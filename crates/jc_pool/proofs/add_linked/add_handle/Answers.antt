use Rattle.std.proofs.Common.{inl, refl, subst}
use Rattle.jc_pool.specs.Pool.{PoolValue}
use Rattle.jc_pool.specs.Lookup.{handle_of, member}
use Rattle.jc_pool.specs.Adding.{IsFirst, IsNowhere}
use Rattle.jc_pool.specs.Index.{handle}
use Rattle.jc_pool.proofs.add_linked.add_handle.Goals as goal

pub returns-in-Some-clause-ok : goal.returns-in-Some-clause-ok
returns-in-Some-clause-ok c =
    inl (subst (λ (l : PoolValue). IsFirst (handle_of l) (handle c.args.kind (member c.args.m.now)) c.in-Some.place) c.deref.ensures.value c.in-Some.ensures.first, refl)

pub add_new_handle-requires-clause-new : goal.add_new_handle-requires-clause-new
add_new_handle-requires-clause-new c =
    subst (λ (l : PoolValue). IsNowhere (handle_of l) (handle c.args.kind (member c.args.m.now))) c.deref.ensures.value c.in_default.ensures.none
