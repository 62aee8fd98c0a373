-- Reading an instruction from the front of the bytes that are left.
use Rattle.std.specs.Prelude.{ℕ, ◌*◌, ◌&&◌, List, take, Option, Some, None, nat_eq, nat_lt, nat_le, int_le, if◌then◌else◌}
use Rattle.std.specs.Int.{w8, w16, w32, cast_signed}
use Rattle.jc_methods.specs.declared.form.Form.{Form}
use Rattle.jc_methods.specs.declared.form.Form.TheVariants as forms
use Rattle.jc_methods.specs.Opcode as opcode
use Rattle.jc_methods.specs.InsnForm.{form_of}
use Rattle.jc_bytes.specs.Decoder.{◌>>=◌, first, byte_at, number_at}
use Rattle.jc_methods.specs.declared.insn.Insn.TheVariants as insns
use Rattle.jc_insn.specs.declared.item.CodeItem.{CodeItem}
use Rattle.jc_insn.specs.declared.item.CodeItem.TheVariants as items
use Rattle.jc_insn.specs.Items.{short_load, short_store, target_of, padding, key_count, ascending, offsets_in, arms_in}

-- n bytes
abbrev pub piece_at : ℕ → List ℕ → Option (List ℕ × List ℕ)
piece_at n left = first n (take n) left

unfoldable pub push_byte_at : ℕ → List ℕ → Option (CodeItem × List ℕ)
push_byte_at op left = do
  value ← byte_at left
  Some (items.Insn (insns.Push op (cast_signed w8 value.0)), value.1)

unfoldable pub push_short_at : ℕ → List ℕ → Option (CodeItem × List ℕ)
push_short_at op left = do
  value ← number_at 2 left
  Some (items.Insn (insns.Push op (cast_signed w16 value.0)), value.1)

unfoldable pub constant_byte_at : List ℕ → Option (CodeItem × List ℕ)
constant_byte_at left = do
  place ← byte_at left
  Some (items.Insn (insns.Constant place.0), place.1)

unfoldable pub constant_short_at : List ℕ → Option (CodeItem × List ℕ)
constant_short_at left = do
  place ← number_at 2 left
  Some (items.Insn (insns.Constant place.0), place.1)

unfoldable pub constant2_at : List ℕ → Option (CodeItem × List ℕ)
constant2_at left = do
  place ← number_at 2 left
  Some (items.Insn (insns.Constant2 place.0), place.1)

unfoldable pub local_at : ℕ → List ℕ → Option (CodeItem × List ℕ)
local_at op left = do
  slot ← byte_at left
  Some (items.Insn (insns.Local op slot.0), slot.1)

unfoldable pub inc_at : List ℕ → Option (CodeItem × List ℕ)
inc_at left = do
  slot ← byte_at left
  by ← byte_at slot.1
  Some (items.Insn (insns.Inc slot.0 (cast_signed w8 by.0)), by.1)

unfoldable pub jump_at : ℕ → ℕ → List ℕ → Option (CodeItem × List ℕ)
jump_at at op left = do
  difference ← number_at 2 left
  Some (items.Insn (insns.Jump op (target_of at (cast_signed w16 difference.0))), difference.1)

unfoldable pub wide_jump_at : ℕ → List ℕ → Option (CodeItem × List ℕ)
wide_jump_at at left = do
  difference ← number_at 4 left
  Some (items.Insn (insns.Jump opcode.goto (target_of at (cast_signed w32 difference.0))), difference.1)

unfoldable pub table_at : ℕ → List ℕ → Option (CodeItem × List ℕ)
table_at at left = do
  pad ← piece_at (padding at) left
  default ← number_at 4 pad.1
  low ← number_at 4 default.1
  high ← number_at 4 low.1
  if int_le (cast_signed w32 low.0) (cast_signed w32 high.0) then (do
    arms ← piece_at (4 * key_count (cast_signed w32 low.0) (cast_signed w32 high.0)) high.1
    Some (items.Insn (insns.Table (cast_signed w32 low.0) (target_of at (cast_signed w32 default.0)) (offsets_in at arms.0)), arms.1)) else None

unfoldable pub lookup_at : ℕ → List ℕ → Option (CodeItem × List ℕ)
lookup_at at left = do
  pad ← piece_at (padding at) left
  default ← number_at 4 pad.1
  pairs ← number_at 4 default.1
  if nat_lt pairs.0 2147483648 then (do
    arms ← piece_at (8 * pairs.0) pairs.1
    if ascending (arms_in at arms.0) then Some (
      items.Insn (insns.Lookup (target_of at (cast_signed w32 default.0))
          (arms_in at arms.0)),
      arms.1,
    ) else None) else None

unfoldable pub member_at : ℕ → List ℕ → Option (CodeItem × List ℕ)
member_at op left = do
  place ← number_at 2 left
  Some (items.Insn (insns.Member op place.0), place.1)

unfoldable pub interface_at : List ℕ → Option (CodeItem × List ℕ)
interface_at left = do
  place ← number_at 2 left
  count ← byte_at place.1
  any ← byte_at count.1
  Some (items.Insn (insns.Interface place.0 count.0), any.1)

unfoldable pub dynamic_at : List ℕ → Option (CodeItem × List ℕ)
dynamic_at left = do
  place ← number_at 2 left
  any ← piece_at 2 place.1
  Some (items.Insn (insns.Dynamic place.0), any.1)

unfoldable pub of_class_at : ℕ → List ℕ → Option (CodeItem × List ℕ)
of_class_at op left = do
  place ← number_at 2 left
  Some (items.Insn (insns.OfClass op place.0), place.1)

unfoldable pub new_array_at : List ℕ → Option (CodeItem × List ℕ)
new_array_at left = do
  elem ← byte_at left
  if nat_le 4 elem.0 && nat_le elem.0 11 then Some (items.Insn (insns.NewArray elem.0), elem.1) else None

unfoldable pub multi_at : List ℕ → Option (CodeItem × List ℕ)
multi_at left = do
  place ← number_at 2 left
  dims ← byte_at place.1
  if nat_le 1 dims.0 then Some (items.Insn (insns.Multi place.0 dims.0), dims.1) else None

unfoldable pub wide_local_at : ℕ → List ℕ → Option (CodeItem × List ℕ)
wide_local_at op left = do
  slot ← number_at 2 left
  Some (items.Insn (insns.Local op slot.0), slot.1)

unfoldable pub wide_inc_at : List ℕ → Option (CodeItem × List ℕ)
wide_inc_at left = do
  slot ← number_at 2 left
  by ← number_at 2 slot.1
  Some (items.Insn (insns.Inc slot.0 (cast_signed w16 by.0)), by.1)

unfoldable pub wide_operands_at : Form → ℕ → List ℕ → Option (CodeItem × List ℕ)
wide_operands_at forms.Local op left = wide_local_at op left
wide_operands_at forms.Inc op left = wide_inc_at left
wide_operands_at forms.Subroutine op left = if nat_eq op opcode.ret then Some (items.Subroutine, left) else None
wide_operands_at form op left = None

unfoldable pub wide_at : List ℕ → Option (CodeItem × List ℕ)
wide_at left = do
  code ← byte_at left
  wide_operands_at (form_of code.0) code.0 code.1

unfoldable pub operands_at : ℕ → Form → ℕ → List ℕ → Option (CodeItem × List ℕ)
operands_at at forms.Simple op left = Some (items.Insn (insns.Simple op), left)
operands_at at forms.PushByte op left = push_byte_at op left
operands_at at forms.PushShort op left = push_short_at op left
operands_at at forms.ConstantByte op left = constant_byte_at left
operands_at at forms.ConstantShort op left = constant_short_at left
operands_at at forms.Constant2 op left = constant2_at left
operands_at at forms.Local op left = local_at op left
operands_at at forms.ShortLoad op left = Some (short_load op, left)
operands_at at forms.ShortStore op left = Some (short_store op, left)
operands_at at forms.Inc op left = inc_at left
operands_at at forms.Jump op left = jump_at at op left
operands_at at forms.WideJump op left = wide_jump_at at left
operands_at at forms.Subroutine op left = Some (items.Subroutine, left)
operands_at at forms.Table op left = table_at at left
operands_at at forms.Lookup op left = lookup_at at left
operands_at at forms.Member op left = member_at op left
operands_at at forms.Interface op left = interface_at left
operands_at at forms.Dynamic op left = dynamic_at left
operands_at at forms.OfClass op left = of_class_at op left
operands_at at forms.NewArray op left = new_array_at left
operands_at at forms.Multi op left = multi_at left
operands_at at forms.Wide op left = wide_at left
operands_at at forms.Unknown op left = None

-- an opcode and its operands, at this offset
unfoldable pub item_at : ℕ → List ℕ → Option (CodeItem × List ℕ)
item_at at left = do
  op ← byte_at left
  operands_at at (form_of op.0) op.0 op.1
