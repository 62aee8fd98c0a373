use Rattle.std.proofs.Common.{◌∙◌, subst}
use Rattle.jc_pool.specs.Pool.{PoolValue}
use Rattle.jc_pool.specs.Lookup.{Member}
use Rattle.jc_pool.specs.Adding.{HasMember, Extends}
use Rattle.jc_pool.proofs.AddingLaws.{same_extends, member_extends}
use Rattle.jc_pool.proofs.pool.Pool.add_member.Goals as goal

pub returns-in_err-place-clause-extends : goal.returns-in_err-place-clause-extends
returns-in_err-place-clause-extends c = same_extends c.args.self.now c.add_member.new.slots.items (c.in_err-place.ensures.err ∙ c.self.view_is)

pub returns-clause-ok : goal.returns-clause-ok
returns-clause-ok c =
    let m : Member = record { tag = c.args.tag; class = c.args.class.now; name = c.args.name.now; desc = c.args.desc.now } in
    subst (λ (l : PoolValue). HasMember l m c.add_member.new.slots.items c.in_ok-place.place) c.self.view_is c.in_ok-place.ensures.ok

pub returns-clause-extends : goal.returns-clause-extends
returns-clause-extends c =
    let m : Member = record { tag = c.args.tag; class = c.args.class.now; name = c.args.name.now; desc = c.args.desc.now } in
    subst (λ (l : PoolValue). Extends l c.add_member.new.slots.items) c.self.view_is
    (member_extends c.self.inside.slots.items c.add_member.new.slots.items m c.in_ok-place.place c.in_ok-place.ensures.ok)
