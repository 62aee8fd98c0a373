use Rattle.std.proofs.Common.{◌≡◌, false, Option, MatchOption, subst, sym, ◌∙◌, ap}
use Rattle.jc_methods.specs.declared.kind.Kind.{Kind}
use Rattle.jc_methods.specs.EntryState.{held_of}
use Rattle.jc_methods.specs.VerificationTypes.{VerificationType, type_state}
use Rattle.jc_refs_check.specs.HeldTypes.{SaysField, has_field}
use Rattle.jc_refs_check.specs.KindNeeds.{takes_at, held_need}
use Rattle.jc_refs_check.proofs.NeedLaws.{one_held, stored_says, stored_there}
use Rattle.jc_refs_check.proofs.operands.CheckedMethod.takes_stored.Goals as goal

pub takes_operand-requires-clause-need : goal.takes_operand-requires-clause-need
takes_operand-requires-clause-need c =
    let m = c.args.self.now in let names = c.args.classes.now.names in
    (subst (λ (o : Option Kind). MatchOption o (has_field m.program.now c.args.class c.args.field ≡ false) (SaysField names m.program.now c.args.class c.args.field)) c.in-Some.is
    (c.field.ensures names m.program.now c.requires.method.types)).says.numbered

pub returns-in-Some : goal.returns-in-Some
returns-in-Some c = λ type f.
    let m = c.args.self.now in let names = c.args.classes.now.names in let b = m.body.now in let s = type_state names c.args.state.now in
    let says = subst (λ (o : Option Kind). MatchOption o (has_field m.program.now c.args.class c.args.field ≡ false) (SaysField names m.program.now c.args.class c.args.field)) c.in-Some.is
    (c.field.ensures names m.program.now c.requires.method.types) in
    c.takes_operand.ensures
    ∙ ap (λ (h : VerificationType). takes_at b s (held_need 0 h)) (stored_says names m.program.now c.args.class c.args.field type c.in-Some.want f says)
    ∙ sym (one_held b s 0 (held_of type))

pub returns-in-None : goal.returns-in-None
returns-in-None c = λ type f.
    let m = c.args.self.now in let names = c.args.classes.now.names in
    absurd (stored_there names m.program.now c.args.class c.args.field type f
    (subst (λ (o : Option Kind). MatchOption o (has_field m.program.now c.args.class c.args.field ≡ false) (SaysField names m.program.now c.args.class c.args.field)) c.in-None.is
    (c.field.ensures names m.program.now c.requires.method.types)))
