use Rattle.std.proofs.Common.{map, sym, ◌∙◌, arith}
use Rattle.std.proofs.lemmas.List.{length-map}
use Rattle.jc_methods.specs.VerificationTypes.{verification_type}
use Rattle.jc_kinds_after.proofs.MovesLaws.{all-unequal, all_no, all_yes, all_end}
use Rattle.jc_kinds_after.proofs.want.are_accepted.Goals as goal

pub returns-then-wants-operands : goal.returns-then-wants-operands
returns-then-wants-operands c names = let n = length-map c.args.operands.now (verification_type names) in
    sym (all-unequal c.args.wants.now (map (verification_type names) c.args.operands.now) (λ e. c.if-wants-operands.true (e ∙ n)))

pub returns-then-not-accepts : goal.returns-then-not-accepts
returns-then-not-accepts c names =
    sym (c.testing.invariant names
    ∙ all_no names _ _ c.testing.i _ _ c.testing-test.true c.if-wants-operands.false (sym (c.accepts.ensures names) ∙ c.if-not-accepts.true))

pub testing-preserved : goal.testing-preserved
testing-preserved c names =
    c.testing.invariant names
    ∙ all_yes names _ _ c.testing.i _ _ c.testing-test.true c.if-wants-operands.false (sym (c.accepts.ensures names) ∙ c.if-not-accepts.false)

pub returns : goal.returns
returns c names = sym (c.testing.invariant names ∙ all_end names _ _ c.testing.i (omega arith) (omega arith))
