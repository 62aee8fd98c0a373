use Rattle.std.proofs.Common.{sym, subst}
use Rattle.std.proofs.lemmas.Result.{on_ok_weaker}
use Rattle.jc_kinds_after.specs.Effects.{AreEffects}
use Rattle.jc_methods.specs.VerificationTypes.{Names, Grows}
use Rattle.jc_methods.proofs.MetNamesLaws.{grows_both}
use Rattle.jc_kinds.specs.StateSequence.{IsKeptEntry}
use Rattle.jc_kinds.proofs.AnswerLaws.{entry_on}
use Rattle.jc_refs_check.proofs.MethodLaws.{method_grown}
use Rattle.jc_refs_check.proofs.check.walk_method.Goals as goal

pub learn-requires : goal.learn-requires
learn-requires c =
    let g = grows_both c.args.classes.now.names c.entry_of.new.names c.of.new.names c.in_ok-entry.ensures.names c.in_ok-effects.ensures.names in
    record { read = c.args.classes.now.names; more = g.0; parts = g.1; known = c.requires.known.known }

pub walk-requires-clause-method : goal.walk-requires-clause-method
walk-requires-clause-method c =
    let g = grows_both c.args.classes.now.names c.entry_of.new.names c.of.new.names c.in_ok-entry.ensures.names c.in_ok-effects.ensures.names in
    method_grown c.args.classes.now.names c.learn.new.self.names c.args.checked.now (subst (Grows c.args.classes.now.names) (sym c.learn.ensures.names) g) c.requires.method

pub walk-requires-clause-effects : goal.walk-requires-clause-effects
walk-requires-clause-effects c = subst (λ (names : Names). AreEffects names c.in_ok-effects.effects) (sym c.learn.ensures.names) c.in_ok-effects.ensures.effects

pub walk-requires-clause-entry : goal.walk-requires-clause-entry
walk-requires-clause-entry c = subst (λ (names : Names). IsKeptEntry names c.args.checked.now.body.now c.in_ok-entry.entry) (sym c.learn.ensures.names)
    (entry_on c.entry_of.new.names c.of.new.names c.args.checked.now.body.now c.in_ok-entry.entry c.in_ok-effects.ensures.names c.in_ok-entry.ensures.state)

pub returns-clause-names : goal.returns-clause-names
returns-clause-names c =
    let old = c.args.classes.now.names in
    let g = grows_both old c.entry_of.new.names c.of.new.names c.in_ok-entry.ensures.names c.in_ok-effects.ensures.names in
    let learnt = subst (Grows old) (sym c.learn.ensures.names) g in
    on_ok_weaker c.walk.result (λ (more : Grows c.learn.new.self.names c.walk.new.classes.names). grows_both old c.learn.new.self.names c.walk.new.classes.names learnt more) c.walk.ensures.names
