use Rattle.std.proofs.Common.{◌++◌, [], ◌∷◌, ℕ, List, sym, ◌∙◌, ap}
use Rattle.jc_bytes.proofs.AppendingLaws.{joined}
use Rattle.jc_bytes.specs.BigNumbers.{short}
use Rattle.jc_methods.specs.Opcode as opcode
use Rattle.jc_instrument_code.proofs.InitLaws.{push_small, push_byte, push_short}
use Rattle.jc_instrument_code.proofs.init.put_push.Goals as goal

pub returns-in_ok-put_u8 : goal.returns-in_ok-put_u8
returns-in_ok-put_u8 c =
    c.in_ok-put_u8.ensures.ok ∙ ap (λ (l : List ℕ). c.args.into.now.items ++ l) (sym (push_small c.args.number c.if-number-le5.true))

pub returns-in_ok-put_u8-3 : goal.returns-in_ok-put_u8-3
returns-in_ok-put_u8-3 c =
    joined c.args.into.now.items c.put_u8-then-number-le127.new.into.items c.put_u8-then-number-le127-2.new.into.items (opcode.bipush ∷ [])
    (c.args.number ∷ []) c.in_ok-put_u8-2.ensures.ok c.in_ok-put_u8-3.ensures.ok
    ∙ ap (λ (l : List ℕ). c.args.into.now.items ++ l) (sym (push_byte c.args.number c.if-number-le5.false c.if-number-le127.true))

pub returns-in_ok-put_short : goal.returns-in_ok-put_short
returns-in_ok-put_short c =
    joined c.args.into.now.items c.put_u8-else-number-le127.new.into.items c.put_short.new.into.items (opcode.sipush ∷ []) (short c.args.number)
    c.in_ok-put_u8-4.ensures.ok c.in_ok-put_short.ensures
    ∙ ap (λ (l : List ℕ). c.args.into.now.items ++ l) (sym (push_short c.args.number c.if-number-le127.false))
