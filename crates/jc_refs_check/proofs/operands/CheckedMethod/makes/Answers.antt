use Rattle.std.proofs.Common.{rules, sym, ◌∙◌, ap, subst}
use Rattle.std.specs.Prelude.{bytes_eq}
use Rattle.jc_programs.specs.Throwables.{name_of}
use Rattle.jc_machine_model.specs.Fits.{made_in}
use Rattle.jc_machine_code.specs.Shown.{Shows}
use Rattle.jc_refs_check.proofs.ThrownLaws.{makes_named, named_is}
use denote.Enum.Bare.{same_true, true_same}
use Rattle.jc_programs.specs.contracts.run_end.Thrown.{the_type}
use Rattle.jc_refs_check.proofs.KnownNeedLaws.{thrown_is}
use Rattle.jc_refs_check.proofs.OperationLaws.{none_made}
use Rattle.jc_refs_check.proofs.MethodLaws.{made_there}
use Rattle.jc_refs_check.proofs.operands.CheckedMethod.makes.Goals as goal

pub returns-in-Makes : goal.returns-in-Makes
returns-in-Makes c =
    let m = c.args.self.now in let ok = c.requires.method.1 in let name = made_in m.body.now c.args.at in
    let is = sym (made_there c.requires.method.0 m ok c.args.at c.requires.made) ∙ c.in-Makes.ensures m.program.now ok.operations in
    thrown_is c.eq.result c.in-Makes.thrown c.args.class
    (λ same. c.eq.ensures ∙ true_same the_type c.in-Makes.thrown c.args.class same)
    (λ holds. same_true the_type (search rules) c.in-Makes.thrown c.args.class (sym c.eq.ensures ∙ holds))
    ∙ ap (bytes_eq (name_of c.args.class)) (named_is name c.in-Makes.thrown (sym (makes_named name c.in-Makes.thrown is)))

pub returns-in_default : goal.returns-in_default
returns-in_default c =
    let m = c.args.self.now in let ok = c.requires.method.1 in
    none_made c.args.class (made_in m.body.now c.args.at) c.operation.result c.requires.class
    (subst (Shows c.operation.result) (made_there c.requires.method.0 m ok c.args.at c.requires.made) (c.operation.ensures m.program.now ok.operations)) c.in_default.not-Makes
