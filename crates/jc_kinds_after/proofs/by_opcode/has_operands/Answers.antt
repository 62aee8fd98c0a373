use Rattle.std.proofs.Common.{◌-◌, sym, ◌∙◌, ap, arith, length, map}
use Rattle.std.proofs.lemmas.List.{length-map, length-drop}
use Rattle.jc_methods.specs.VerificationTypes.{verification_type}
use Rattle.jc_kinds_after.specs.Wants.{accepts_all}
use Rattle.jc_kinds_after.specs.Step.{upper}
use Rattle.jc_kinds_after.proofs.MovesLaws.{all-unequal, upper_slice}
use Rattle.jc_kinds_after.proofs.by_opcode.has_operands.Goals as goal

pub returns-then-stack-wants : goal.returns-then-stack-wants
returns-then-stack-wants c names =
    let hs = map (verification_type names) c.args.stack.now in let n = length-map c.args.stack.now (verification_type names) in
    let m = length-drop (length hs - length c.args.wants.now) hs in let lt = c.if-stack-wants.true in
    sym (all-unequal c.args.wants.now (upper (length c.args.wants.now) hs) (omega arith))

pub returns : goal.returns
returns c names = c.are_accepted.ensures names
    ∙ ap (accepts_all c.args.wants.now) (upper_slice names (length c.args.wants.now) c.args.stack.now c.if-stack-wants.false)
