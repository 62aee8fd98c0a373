use Rattle.std.proofs.Common.{◌≡◌, false, nat_eq, refl, rules, subst, sym, ◌∙◌, true≢false, IsTrue, ◌↔◌, Bool, Some, ap}
use Rattle.jc_pool.specs.Lookup.{handle_of}
use Rattle.jc_instrument.specs.Needed.{bootstrap_handle}
use Rattle.jc_link_programs.proofs.OwnBootstrapLaws.{handle_told, no_handle, other_kind}
use Rattle.jc_link_programs.proofs.own_bootstrap.is_bootstrap_handle.Goals as goal

pub returns-then-handle-eq-INVOKE_STATIC : goal.returns-then-handle-eq-INVOKE_STATIC
returns-then-handle-eq-INVOKE_STATIC c =
    handle_told c.args.pool.now c.args.place c.args.class.now c.in-Ok.handle.kind c.in-Ok.handle.member c.is_bootstrap_method.result c.in-Ok.ensures.parts
    (search rules) c.is_bootstrap_method.ensures

pub returns-else-handle-eq-INVOKE_STATIC : goal.returns-else-handle-eq-INVOKE_STATIC
returns-else-handle-eq-INVOKE_STATIC c =
    let other : nat_eq c.in-Ok.handle.kind 6 ≡ false = search rules in
    subst (λ (t : Bool). IsTrue t ↔ (handle_of c.args.pool.now c.args.place ≡ Some (bootstrap_handle c.args.class.now))) (sym other)
    (other_kind c.args.pool.now c.args.place c.args.class.now c.in-Ok.handle.kind c.in-Ok.handle.member c.in-Ok.ensures.parts
    (λ same. true≢false (sym (ap (λ k. nat_eq k 6) same) ∙ other)))

pub returns-in-Err : goal.returns-in-Err
returns-in-Err c = no_handle c.args.pool.now c.args.place c.args.class.now (c.in-Err.ensures.bad.0 refl)
