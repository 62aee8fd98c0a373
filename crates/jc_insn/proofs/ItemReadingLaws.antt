-- An item that is read is spelled so, and what is spelled so is read.
use Rattle.std.proofs.Common.{◌≡◌, ℕ, ◌*◌, ◌&&◌, List, ◌++◌, Some, nat_eq, nat_lt, nat_le, sym, ◌∙◌, ap}
use Rattle.std.specs.Prelude.{int_le}
use Rattle.std.proofs.lemmas.List.{append_cancel_right}
use Rattle.std.specs.Int.{w8, w16, w32, cast_signed}
use Rattle.std.proofs.lemmas.Option.{same_Some}
use Rattle.jc_methods.specs.Opcode as opcode
use Rattle.jc_bytes.specs.Decoder.{◌>>=◌, byte_at, number_at}
use Rattle.jc_methods.specs.declared.form.Form.{Form}
use Rattle.jc_methods.specs.declared.form.Form.TheVariants as forms
use Rattle.jc_methods.specs.InsnForm.{form_of}
use Rattle.jc_methods.specs.declared.insn.Insn.{Insn}
use Rattle.jc_methods.specs.declared.insn.Insn.TheVariants as insns
use Rattle.jc_insn.specs.declared.item.CodeItem.{CodeItem}
use Rattle.jc_insn.specs.declared.item.CodeItem.TheVariants as items
use Rattle.jc_insn.specs.Fields.{nothing, byte, piece, Then}
use Rattle.jc_insn.specs.Items.{number, padding, key_count, target_of, offsets_in, arms_in, ascending, short_load, short_store, table_operands, lookup_operands, wide_operands, operands, IsItem}
use Rattle.jc_insn.specs.Reading.{piece_at, push_byte_at, push_short_at, constant_byte_at, constant_short_at, constant2_at, local_at, inc_at, jump_at, wide_jump_at, table_at, lookup_at, member_at, interface_at, dynamic_at, of_class_at, new_array_at, multi_at, wide_local_at, wide_inc_at, wide_operands_at, wide_at, operands_at, item_at}
use Rattle.jc_insn.proofs.FieldReadingLaws.{IsReadBy, reads_nothing, reads_byte, reads_number, reads_piece, reads_then, reads_if, reads_none}

-- a field, and the item that it makes
one_number : (n : ℕ) (f : ℕ → CodeItem) → IsReadBy (Then (number n) (λ x. nothing (f x))) (λ left. number_at n left >>= λ p. Some (f p.0, p.1))
one_number n f = reads_then (number n) (λ x. nothing (f x)) (number_at n) (λ x left. Some (f x, left)) (reads_number n) (λ x. reads_nothing (f x))

one_byte : (f : ℕ → CodeItem) → IsReadBy (Then byte (λ x. nothing (f x))) (λ left. byte_at left >>= λ p. Some (f p.0, p.1))
one_byte f = reads_then byte (λ x. nothing (f x)) byte_at (λ x left. Some (f x, left)) reads_byte (λ x. reads_nothing (f x))

reads_table : (at : ℕ) → IsReadBy (table_operands at) (table_at at)
unfolding table_operands table_at
reads_table at =
    reads_then (piece (padding at)) _ (piece_at (padding at)) _ (reads_piece (padding at)) (λ pad.
    reads_then (number 4) _ (number_at 4) _ (reads_number 4) (λ default.
    reads_then (number 4) _ (number_at 4) _ (reads_number 4) (λ low.
    reads_then (number 4) _ (number_at 4) _ (reads_number 4) (λ high.
    reads_if (int_le (cast_signed w32 low) (cast_signed w32 high)) _ _
    (reads_then (piece (4 * key_count (cast_signed w32 low) (cast_signed w32 high))) _
    (piece_at (4 * key_count (cast_signed w32 low) (cast_signed w32 high))) _
    (reads_piece (4 * key_count (cast_signed w32 low) (cast_signed w32 high))) (λ arms.
    reads_nothing (items.Insn (insns.Table (cast_signed w32 low) (target_of at (cast_signed w32 default)) (offsets_in at arms)))))))))

reads_lookup : (at : ℕ) → IsReadBy (lookup_operands at) (lookup_at at)
unfolding lookup_operands lookup_at
reads_lookup at =
    reads_then (piece (padding at)) _ (piece_at (padding at)) _ (reads_piece (padding at)) (λ pad.
    reads_then (number 4) _ (number_at 4) _ (reads_number 4) (λ default.
    reads_then (number 4) _ (number_at 4) _ (reads_number 4) (λ pairs.
    reads_if (nat_lt pairs 2147483648) _ _
    (reads_then (piece (8 * pairs)) _ (piece_at (8 * pairs)) _ (reads_piece (8 * pairs)) (λ arms.
    reads_if (ascending (arms_in at arms)) _ _
    (reads_nothing (items.Insn (insns.Lookup (target_of at (cast_signed w32 default)) (arms_in at arms)))))))))

reads_wide_operands : (form : Form) (op : ℕ) → IsReadBy (wide_operands form op) (wide_operands_at form op)
unfolding wide_operands wide_operands_at wide_local_at wide_inc_at
reads_wide_operands forms.Local op = one_number 2 (λ slot. items.Insn (insns.Local op slot))
reads_wide_operands forms.Inc op = reads_then (number 2) _ (number_at 2) _ (reads_number 2)
    (λ slot. one_number 2 (λ by. items.Insn (insns.Inc slot (cast_signed w16 by))))
reads_wide_operands forms.Subroutine op = reads_if (nat_eq op opcode.ret) _ _ (reads_nothing items.Subroutine)
reads_wide_operands form op = reads_none

reads_operands : (at : ℕ) (form : Form) (op : ℕ) → IsReadBy (operands at form op) (operands_at at form op)
unfolding operands operands_at push_byte_at push_short_at constant_byte_at constant_short_at constant2_at local_at inc_at jump_at wide_jump_at
    member_at interface_at dynamic_at of_class_at new_array_at multi_at wide_at
reads_operands at forms.Simple op = reads_nothing (items.Insn (insns.Simple op))
reads_operands at forms.PushByte op = one_byte (λ value. items.Insn (insns.Push op (cast_signed w8 value)))
reads_operands at forms.PushShort op = one_number 2 (λ value. items.Insn (insns.Push op (cast_signed w16 value)))
reads_operands at forms.ConstantByte op = one_byte (λ place. items.Insn (insns.Constant place))
reads_operands at forms.ConstantShort op = one_number 2 (λ place. items.Insn (insns.Constant place))
reads_operands at forms.Constant2 op = one_number 2 (λ place. items.Insn (insns.Constant2 place))
reads_operands at forms.Local op = one_byte (λ slot. items.Insn (insns.Local op slot))
reads_operands at forms.ShortLoad op = reads_nothing (short_load op)
reads_operands at forms.ShortStore op = reads_nothing (short_store op)
reads_operands at forms.Inc op = reads_then byte _ byte_at _ reads_byte (λ slot. one_byte (λ by. items.Insn (insns.Inc slot (cast_signed w8 by))))
reads_operands at forms.Jump op = one_number 2 (λ difference. items.Insn (insns.Jump op (target_of at (cast_signed w16 difference))))
reads_operands at forms.WideJump op = one_number 4 (λ difference. items.Insn (insns.Jump opcode.goto (target_of at (cast_signed w32 difference))))
reads_operands at forms.Subroutine op = reads_nothing items.Subroutine
reads_operands at forms.Table op = reads_table at
reads_operands at forms.Lookup op = reads_lookup at
reads_operands at forms.Member op = one_number 2 (λ place. items.Insn (insns.Member op place))
reads_operands at forms.Interface op = reads_then (number 2) _ (number_at 2) _ (reads_number 2)
    (λ place. reads_then byte _ byte_at _ reads_byte (λ count. one_byte (λ any. items.Insn (insns.Interface place count))))
reads_operands at forms.Dynamic op = reads_then (number 2) _ (number_at 2) _ (reads_number 2)
    (λ place. reads_then (piece 2) _ (piece_at 2) _ (reads_piece 2) (λ any. reads_nothing (items.Insn (insns.Dynamic place))))
reads_operands at forms.OfClass op = one_number 2 (λ place. items.Insn (insns.OfClass op place))
reads_operands at forms.NewArray op = reads_then byte _ byte_at _ reads_byte
    (λ elem. reads_if (nat_le 4 elem && nat_le elem 11) _ _ (reads_nothing (items.Insn (insns.NewArray elem))))
reads_operands at forms.Multi op = reads_then (number 2) _ (number_at 2) _ (reads_number 2)
    (λ place. reads_then byte _ byte_at _ reads_byte (λ dims. reads_if (nat_le 1 dims) _ _ (reads_nothing (items.Insn (insns.Multi place dims)))))
reads_operands at forms.Wide op = reads_then byte _ byte_at _ reads_byte (λ code. reads_wide_operands (form_of code) code)
reads_operands at forms.Unknown op = reads_none

pub reads_item : (at : ℕ) → IsReadBy (IsItem at) (item_at at)
unfolding IsItem item_at
reads_item at = reads_then byte _ byte_at _ reads_byte (λ op. reads_operands at (form_of op) op)

pub insn_is : (a b : Insn) → items.Insn a ≡ items.Insn b → a ≡ b
insn_is a b e = cc

pub not_subroutine : (a : Insn) → items.Insn a ≡ items.Subroutine → ⊥
not_subroutine a e = cc

-- two items at the front of the same bytes are one
pub same_item : (at : ℕ) (a b x y : List ℕ) (i j : CodeItem) → IsItem at a i → IsItem at b j → a ++ x ≡ b ++ y → (a ≡ b) × (i ≡ j)
same_item at a b x y i j p q e =
    let r = reads_item at in
    let same = same_Some (i, x) (j, y) (sym (r.again a x i p) ∙ ap (item_at at) e ∙ r.again b y j q) in
    let rest : x ≡ y = ap (λ (s : CodeItem × List ℕ). s.1) same in
    (append_cancel_right a b x (e ∙ ap (λ (l : List ℕ). b ++ l) (sym rest)), ap (λ (s : CodeItem × List ℕ). s.0) same)
