use Rattle.std.proofs.Common.{rules, sym, ◌∙◌, ap}
use denote.Enum.Bare.{same_true, true_same}
use Rattle.jc_programs.specs.contracts.run_end.Thrown.{the_type}
use Rattle.jc_refs_check.proofs.KnownNeedLaws.{is_thrown_known, thrown_known_is, thrown_not, thrown_is}
use Rattle.jc_refs_check.proofs.operands.is_thrown.Goals as goal

pub returns-in-Throwable : goal.returns-in-Throwable
returns-in-Throwable c = λ name e.
    thrown_is c.eq.result c.in-Throwable.thrown c.args.class
    (λ same. c.eq.ensures ∙ true_same the_type c.in-Throwable.thrown c.args.class same)
    (λ holds. same_true the_type (search rules) c.in-Throwable.thrown c.args.class (sym c.eq.ensures ∙ holds))
    ∙ ap (is_thrown_known c.args.class) (sym c.in-Throwable.is ∙ e) ∙ thrown_known_is c.args.class name

pub returns-in_default : goal.returns-in_default
returns-in_default c = λ name e.
    sym (thrown_not c.args.class c.args.known c.in_default.not-Throwable) ∙ ap (is_thrown_known c.args.class) e ∙ thrown_known_is c.args.class name
