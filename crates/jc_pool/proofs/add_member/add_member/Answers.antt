use Rattle.std.proofs.Common.{inl, refl, subst}
use Rattle.jc_pool.specs.Pool.{PoolValue}
use Rattle.jc_pool.specs.Lookup.{member, member_of}
use Rattle.jc_pool.specs.Adding.{IsFirst, IsNowhere}
use Rattle.jc_pool.proofs.add_member.add_member.Goals as goal

pub returns-in-Some-clause-ok : goal.returns-in-Some-clause-ok
returns-in-Some-clause-ok c = inl (subst (λ (l : PoolValue). IsFirst (member_of l) (member c.args.m.now) c.in-Some.place) c.deref.ensures.value c.in-Some.ensures.first, refl)

pub add_new_member-requires-clause-new : goal.add_new_member-requires-clause-new
add_new_member-requires-clause-new c = subst (λ (l : PoolValue). IsNowhere (member_of l) (member c.args.m.now)) c.deref.ensures.value c.in_default.ensures.none
