use Rattle.std.proofs.Common.{◌∙◌, sym, arith}
use Rattle.jc_machine_numbers.proofs.CategoryLaws.{moved_on_top}
use Rattle.jc_machine_numbers.proofs.OperandLaws.{effect_moves, effect_single, effect_pair}
use Rattle.jc_machine_numbers.proofs.effects.effect.Goals as goal

pub returns-then-op-lt-IADD : goal.returns-then-op-lt-IADD
returns-then-op-lt-IADD c = λ stack on_top.
    c.moved_operands.ensures stack ∙ moved_on_top c.args.op c.args.a c.args.b c.args.c c.args.d stack on_top ∙ effect_moves c.args.op stack (omega arith) (omega arith)

pub returns-then-has_one_operand : goal.returns-then-has_one_operand
returns-then-has_one_operand c = λ stack on_top.
    c.single.ensures stack
    ∙ effect_single c.args.op stack (omega arith) c.args.a c.args.b c.args.c c.args.d on_top (omega arith) (sym c.has_one_operand.ensures ∙ c.if-has_one_operand.true)

pub returns-else-has_one_operand : goal.returns-else-has_one_operand
returns-else-has_one_operand c = λ stack on_top.
    c.pair.ensures stack
    ∙ effect_pair c.args.op stack (omega arith) c.args.a c.args.b c.args.c c.args.d on_top (omega arith) (sym c.has_one_operand.ensures ∙ c.if-has_one_operand.false)
