use Rattle.std.proofs.Common.{◌+◌, ◌&&◌, Bool, sym, ◌∙◌, ap, map, drop}
use Rattle.jc_methods.specs.VerificationTypes.{verification_type, type_state}
use Rattle.jc_refs_check.specs.KindNeeds.{all_held}
use Rattle.jc_refs_check.proofs.NeedLaws.{held_on, held_done}
use Rattle.jc_refs_check.proofs.operands.CheckedMethod.takes_arguments.Goals as goal

pub returns-then-not-takes_operand : goal.returns-then-not-takes_operand
returns-then-not-takes_operand c =
    let b = c.args.self.now.body.now in let names = c.args.classes.now.names in let s = type_state names c.args.state.now in let i = c.passing.i in
    sym (c.passing.invariant ∙ held_on b s names c.args.parameters.now i _ c.passing-test.true
    ∙ ap (λ (x : Bool). x && all_held b s (map (verification_type names) (drop (i + 1) c.args.parameters.now))) (sym c.takes_operand.ensures ∙ c.if-not-takes_operand.true))

pub passing-preserved : goal.passing-preserved
passing-preserved c =
    let b = c.args.self.now.body.now in let names = c.args.classes.now.names in let s = type_state names c.args.state.now in let i = c.passing.i in
    c.passing.invariant ∙ held_on b s names c.args.parameters.now i _ c.passing-test.true
    ∙ ap (λ (x : Bool). x && all_held b s (map (verification_type names) (drop (i + 1) c.args.parameters.now))) (sym c.takes_operand.ensures ∙ c.if-not-takes_operand.false)

pub returns : goal.returns
returns c =
    let names = c.args.classes.now.names in
    sym (c.passing.invariant ∙ held_done c.args.self.now.body.now (type_state names c.args.state.now) names c.args.parameters.now c.passing.i c.passing-test.false)
