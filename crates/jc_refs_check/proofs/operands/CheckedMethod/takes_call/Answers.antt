use Rattle.std.proofs.Common.{◌≡◌, None, Option, Bor, MatchOption, length, map, subst, sym, ◌∙◌, ap}
use Rattle.std.specs.List.{AllByRecursion}
use Rattle.jc_methods.specs.VerificationTypes.{IsNumbered, verification_type, type_state}
use Rattle.jc_programs.specs.Members.{body_of}
use Rattle.jc_refs_check.specs.declared.members.Signature.{Signature}
use Rattle.jc_refs_check.specs.HeldTypes.{SaysMethod}
use Rattle.jc_refs_check.specs.KindNeeds.{all_held}
use Rattle.jc_refs_check.proofs.NeedLaws.{arguments_held, called_says, called_there}
use Rattle.jc_refs_check.proofs.operands.CheckedMethod.takes_call.Goals as goal

pub takes_arguments-requires-clause-parameters : goal.takes_arguments-requires-clause-parameters
takes_arguments-requires-clause-parameters c =
    let m = c.args.self.now in let names = c.args.classes.now.names in
    let says = subst (λ (o : Option (Bor Signature)). MatchOption o (body_of m.program.now c.args.callee ≡ None) (λ s. SaysMethod names m.program.now c.args.callee s.now)) c.in-Some.is
    (c.method.ensures names m.program.now c.requires.method.types) in
    subst (AllByRecursion (IsNumbered (length names))) (sym c.deref.ensures) says.says.numbered.parameters

pub returns-in-Some : goal.returns-in-Some
returns-in-Some c = λ parameters max_locals invoked.
    let m = c.args.self.now in let names = c.args.classes.now.names in let b = m.body.now in let s = type_state names c.args.state.now in
    let says = subst (λ (o : Option (Bor Signature)). MatchOption o (body_of m.program.now c.args.callee ≡ None) (λ s. SaysMethod names m.program.now c.args.callee s.now)) c.in-Some.is
    (c.method.ensures names m.program.now c.requires.method.types) in
    c.takes_arguments.ensures
    ∙ ap (all_held b s) (ap (map (verification_type names)) c.deref.ensures ∙ called_says names m.program.now c.args.callee parameters max_locals c.in-Some.signature.now invoked says)
    ∙ sym (arguments_held b s parameters)

pub returns-in-None : goal.returns-in-None
returns-in-None c = λ parameters max_locals invoked.
    let m = c.args.self.now in let names = c.args.classes.now.names in
    absurd (called_there names m.program.now c.args.callee parameters max_locals invoked
    (subst (λ (o : Option (Bor Signature)). MatchOption o (body_of m.program.now c.args.callee ≡ None) (λ s. SaysMethod names m.program.now c.args.callee s.now)) c.in-None.is
    (c.method.ensures names m.program.now c.requires.method.types)))
