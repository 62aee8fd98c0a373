use Rattle.std.proofs.Common.{◌<◌, length, sym, subst, IfOk, IfSome}
use Rattle.jc_methods.specs.declared.body.Body.{Body}
use Rattle.jc_methods.proofs.MetNamesLaws.{grows_both}
use Rattle.jc_kinds_after.specs.Answers.{IsStateOf, IsWhole}
use Rattle.jc_kinds_after.proofs.EffectsLaws.{of_body, state_later}
use Rattle.jc_kinds_after.proofs.state_after.after.Goals as goal

pub after-requires-clause-place : goal.after-requires-clause-place
after-requires-clause-place c = subst (λ (b : Body). c.args.i < length b.code) (sym c.in_ok-effects.ensures.body) c.requires.place

pub after-requires-clause-state : goal.after-requires-clause-state
after-requires-clause-state c =
    subst (λ (b : Body). IsStateOf (length c.of.new.names) b c.args.state.now) (sym c.in_ok-effects.ensures.body)
    (state_later c.args.names.now c.of.new.names c.args.body.now c.args.state.now c.of.ensures.names c.requires.state)

pub returns-clause-after : goal.returns-clause-after
returns-clause-after c = of_body c.args.names.now c.of.new.names c.after.new.names _ c.args.body.now c.args.i c.args.state.now c.after.result
    c.of.ensures.names c.requires.state.numbered c.in_ok-effects.ensures.body c.after.ensures.after

pub returns-clause-next : goal.returns-clause-next
returns-clause-next c = subst (λ (b : Body). IfOk c.after.result (λ o. IfSome o (λ s. IsStateOf (length c.after.new.names) b s)))
    c.in_ok-effects.ensures.body c.after.ensures.next

pub returns-clause-whole : goal.returns-clause-whole
returns-clause-whole c = subst (λ (b : Body). IfOk c.after.result (λ o. IfSome o (λ s. IsWhole b c.args.state.now → IsWhole b s)))
    c.in_ok-effects.ensures.body c.after.ensures.whole

pub returns-clause-names : goal.returns-clause-names
returns-clause-names c = grows_both c.args.names.now c.of.new.names c.after.new.names c.of.ensures.names c.after.ensures.names
