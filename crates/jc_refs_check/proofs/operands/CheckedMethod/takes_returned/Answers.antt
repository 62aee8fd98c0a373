use Rattle.std.proofs.Common.{◌≡◌, None, Option, Bor, MatchOption, length, subst, sym, ◌∙◌, ap}
use Rattle.std.specs.Option.{option_map}
use Rattle.jc_methods.specs.DescriptorTypes.{method_type_in}
use Rattle.jc_methods.specs.VerificationTypes.{verification_type, type_state}
use Rattle.jc_programs.specs.Members.{body_of}
use Rattle.jc_refs_check.specs.declared.members.Signature.{Signature}
use Rattle.jc_refs_check.specs.HeldTypes.{HeldTypes, IsNumberedResult, SaysMethod}
use Rattle.jc_refs_check.proofs.NeedLaws.{own_says, own_there, returned_one, returned_none}
use Rattle.jc_refs_check.proofs.operands.CheckedMethod.takes_returned.Goals as goal

pub takes_operand-requires-clause-need : goal.takes_operand-requires-clause-need
takes_operand-requires-clause-need c =
    let m = c.args.self.now in let names = c.args.classes.now.names in
    let says = subst (λ (o : Option (Bor Signature)). MatchOption o (body_of m.program.now m.method ≡ None) (λ s. SaysMethod names m.program.now m.method s.now)) c.in-Some.is
    (c.method.ensures names m.program.now c.requires.method.types) in
    subst (IsNumberedResult (length names)) c.in-Some-returns.is says.says.numbered.returns

pub returns-in-Some-returns : goal.returns-in-Some-returns
returns-in-Some-returns c =
    let m = c.args.self.now in let names = c.args.classes.now.names in let ok = c.requires.method in let b = m.body.now in let s = type_state names c.args.state.now in
    let says = subst (λ (o : Option (Bor Signature)). MatchOption o (body_of m.program.now m.method ≡ None) (λ s. SaysMethod names m.program.now m.method s.now)) c.in-Some.is
    (c.method.ensures names m.program.now ok.types) in
    let own = own_says names m.program.now m.method ok.linked b c.in-Some.signature.now ok.class_is ok.body_is says in
    c.takes_operand.ensures
    ∙ returned_one b s names c.in-Some-returns.want (method_type_in b.desc).returns
    (ap (option_map (verification_type names)) (sym c.in-Some-returns.is) ∙ ap (λ (t : HeldTypes). t.returns) own.says)

pub returns-in-None-returns : goal.returns-in-None-returns
returns-in-None-returns c =
    let m = c.args.self.now in let names = c.args.classes.now.names in let ok = c.requires.method in let b = m.body.now in let s = type_state names c.args.state.now in
    let says = subst (λ (o : Option (Bor Signature)). MatchOption o (body_of m.program.now m.method ≡ None) (λ s. SaysMethod names m.program.now m.method s.now)) c.in-Some.is
    (c.method.ensures names m.program.now ok.types) in
    let own = own_says names m.program.now m.method ok.linked b c.in-Some.signature.now ok.class_is ok.body_is says in
    returned_none b s (method_type_in b.desc).returns (ap (option_map (verification_type names)) (sym c.in-None-returns.is) ∙ ap (λ (t : HeldTypes). t.returns) own.says)

pub returns-in-None : goal.returns-in-None
returns-in-None c =
    let m = c.args.self.now in let names = c.args.classes.now.names in let ok = c.requires.method in
    absurd (own_there names m.program.now m.method ok.linked m.body.now ok.class_is ok.body_is
    (subst (λ (o : Option (Bor Signature)). MatchOption o (body_of m.program.now m.method ≡ None) (λ s. SaysMethod names m.program.now m.method s.now)) c.in-None.is
    (c.method.ensures names m.program.now ok.types)))
