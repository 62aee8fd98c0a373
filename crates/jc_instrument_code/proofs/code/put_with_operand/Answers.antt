use Rattle.std.proofs.Common.{◌++◌, ℕ, List, sym, ◌∙◌, ap}
use Rattle.jc_instrument_code.proofs.OperandLaws.{operand_short, operand_put}
use Rattle.jc_instrument_code.proofs.code.put_with_operand.Goals as goal

pub returns-then-code-offset : goal.returns-then-code-offset
returns-then-code-offset c =
    c.in_ok-put_bytes.ensures.ok
    ∙ ap (λ (l : List ℕ). c.args.into.now.items ++ l) (sym (operand_short c.args.offset c.args.place c.args.code.now c.if-code-offset.true))

pub returns : goal.returns
returns c =
    operand_put c.args.offset c.args.place c.args.code.now c.args.into.now.items c.put_bytes-2.new.into.items c.put_short.new.into.items
    c.put_bytes-3.new.into.items c.if-code-offset.false c.in_ok-put_bytes-2.ensures.ok c.in_ok-put_short.ensures c.in_ok-put_bytes-3.ensures.ok
