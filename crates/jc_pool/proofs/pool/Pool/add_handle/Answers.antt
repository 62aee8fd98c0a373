use Rattle.std.proofs.Common.{◌∙◌, subst}
use Rattle.jc_pool.specs.Pool.{PoolValue}
use Rattle.jc_pool.specs.Adding.{HasHandle, static_handle, Extends}
use Rattle.jc_pool.proofs.AddingLaws.{same_extends}
use Rattle.jc_pool.proofs.AddedLinkedLaws.{handle_extends}
use Rattle.jc_pool.proofs.pool.Pool.add_handle.Goals as goal

pub returns-in_err-place-clause-extends : goal.returns-in_err-place-clause-extends
returns-in_err-place-clause-extends c = same_extends c.args.self.now c.add_handle.new.slots.items (c.in_err-place.ensures.err ∙ c.self.view_is)

pub returns-clause-ok : goal.returns-clause-ok
returns-clause-ok c =
    let h = static_handle c.args.class.now c.args.name.now c.args.desc.now in
    subst (λ (l : PoolValue). HasHandle l h c.add_handle.new.slots.items c.in_ok-place.place) c.self.view_is c.in_ok-place.ensures.ok

pub returns-clause-extends : goal.returns-clause-extends
returns-clause-extends c =
    let h = static_handle c.args.class.now c.args.name.now c.args.desc.now in
    subst (λ (l : PoolValue). Extends l c.add_handle.new.slots.items) c.self.view_is
    (handle_extends c.self.inside.slots.items c.add_handle.new.slots.items h c.in_ok-place.place c.in_ok-place.ensures.ok)
