-- The numbers in instructions that were read of bytes fit their types (JVM Specification 6.5).
use Rattle.std.proofs.Common.{◌≡◌, ℕ, zero, suc, ◌+◌, ◌-◌, ◌/◌, ◌%◌, ◌<◌, ◌^◌, List, [], ◌∷◌, length, drop, All, sym, subst, arith, w8, w16, w32}
use Rattle.std.specs.Prelude.{FitsSigned}
use Rattle.std.specs.Int.{cast_signed}
use Rattle.std.proofs.Math.Facts.{sfits_to_z, sfits_widen}
use Rattle.std.proofs.lemmas.List.Elements.{All-cons, All-map, All-nil}
use Rattle.byteorder.specs.Endian.{big_number}
use Rattle.byteorder.specs.Numbers.{big_from-lt}
use Rattle.jc_bytes.specs.ByteLists.{AreBytes}
use Rattle.jc_methods.specs.InsnForm.{form_of}
use Rattle.jc_methods.specs.Insn.{with_places}
use Rattle.jc_methods.specs.Opcode as opcode
use Rattle.jc_methods.specs.Starts.{insn_number}
use Rattle.jc_methods.specs.declared.form.Form.{Form}
use Rattle.jc_methods.specs.declared.form.Form.TheVariants as forms
use Rattle.jc_methods.specs.declared.insn.Arm.{Arm}
use Rattle.jc_methods.specs.declared.insn.Insn.{Insn}
use Rattle.jc_methods.specs.declared.insn.Insn.TheVariants as insns
use Rattle.jc_bytes.proofs.OneTextLaws.{big_below, both_bytes, byte_at}
use Rattle.jc_insn.specs.declared.item.CodeItem.TheVariants as items
use Rattle.jc_insn.specs.Fields.{Then, byte, nothing, piece}
use Rattle.jc_insn.specs.Items.{IsItem, arm_in, arms_in, in_pieces, lookup_operands, number, operands, table_operands, wide_operands}
use Rattle.jc_insn.specs.Spells.{Spells, SpellsFrom}
use Rattle.jc_insn.specs.Writing.{IsInRange}
use Rattle.jc_insn.proofs.ItemReadingLaws.{insn_is, not_subroutine}
use Rattle.jc_insn.proofs.PlacesLaws.{in_range_with}

as_range : (insn known : Insn) → items.Insn insn ≡ items.Insn known → IsInRange known → IsInRange insn
as_range insn known e range = subst IsInRange (sym (insn_is insn known e)) range

-- ---- fields

-- a field's value is below a power of 256, and what stands behind it is of bytes
number_of : {Y : Type 0} (n : ℕ) (G : ℕ → List ℕ → Y → Type 0) (bytes : List ℕ) (y : Y) (t : Then (number n) G bytes y) → AreBytes bytes
    → (t.value < 256 ^ n) × AreBytes t.rest
number_of n G bytes y t are =
    let split = both_bytes t.front t.rest (subst AreBytes t.parts are) in (big_below n t.value t.front split.0 t.field, split.1)

byte_of : {Y : Type 0} (G : ℕ → List ℕ → Y → Type 0) (bytes : List ℕ) (y : Y) (t : Then byte G bytes y) → AreBytes bytes
    → (t.value < 256) × AreBytes t.rest
byte_of G bytes y t are =
    let split = both_bytes t.front t.rest (subst AreBytes t.parts are) in ((subst AreBytes t.field split.0).0, split.1)

piece_of : {Y : Type 0} (n : ℕ) (G : List ℕ → List ℕ → Y → Type 0) (bytes : List ℕ) (y : Y) (t : Then (piece n) G bytes y) → AreBytes bytes
    → AreBytes t.value × AreBytes t.rest
piece_of n G bytes y t are =
    let split = both_bytes t.front t.rest (subst AreBytes t.parts are) in (subst AreBytes t.field.1 split.0, split.1)

short_byte : (n : ℕ) → n < 256 → FitsSigned w16 (cast_signed w8 n)
short_byte n lt = sfits_widen {w = w8} {w' = w16} tt (sfits_to_z {w = w8} record { fits = lt })

-- ---- by forms

wide_range : (form : Form) (op : ℕ) (rest : List ℕ) (insn : Insn) → AreBytes rest → wide_operands form op rest (items.Insn insn) → IsInRange insn
unfolding wide_operands
wide_range forms.Local op rest insn are t =
    let slot = number_of 2 (λ v. nothing (items.Insn (insns.Local op v))) rest (items.Insn insn) t are in
    as_range insn (insns.Local op t.value) t.behind.1 slot.0
wide_range forms.Inc op rest insn are t =
    let slot = number_of 2 _ rest (items.Insn insn) t are in
    let by = number_of 2 _ t.rest (items.Insn insn) t.behind slot.1 in
    as_range insn (insns.Inc t.value (cast_signed w16 t.behind.value)) t.behind.behind.1 (slot.0, sfits_to_z {w = w16} record { fits = by.0 })
wide_range forms.Subroutine op rest insn are t = absurd (not_subroutine insn t.1.1)
wide_range form op rest insn are t = absurd t

-- ---- switches

key_fits : (bytes : List ℕ) → AreBytes bytes → FitsSigned w32 (cast_signed w32 (big_number 4 bytes))
key_fits bytes are = sfits_to_z {w = w32} record { fits = big_from-lt 0 4 bytes (byte_at bytes are) }

bytes_behind : (n : ℕ) (bytes : List ℕ) → AreBytes bytes → AreBytes (drop n bytes)
bytes_behind zero bytes are = are
bytes_behind (suc n) [] are = tt
bytes_behind (suc n) (b ∷ bytes) are = bytes_behind n bytes are.1

keys_fit : (at n : ℕ) (bytes : List ℕ) → AreBytes bytes → All (λ arm. FitsSigned w32 arm.key) (in_pieces 8 (arm_in at) n bytes)
keys_fit at zero bytes are = All-nil (λ (arm : Arm). FitsSigned w32 arm.key)
keys_fit at (suc n) bytes are =
    All-cons (λ (arm : Arm). FitsSigned w32 arm.key) (arm_in at bytes) (in_pieces 8 (arm_in at) n (drop 8 bytes)) (key_fits bytes are)
    (keys_fit at n (drop 8 bytes) (bytes_behind 8 bytes are))

table_range : (at : ℕ) (rest : List ℕ) (insn : Insn) → AreBytes rest → table_operands at rest (items.Insn insn) → IsInRange insn
unfolding table_operands
table_range at rest insn are t =
    let pad = piece_of _ _ rest (items.Insn insn) t are in
    let default = number_of 4 _ t.rest (items.Insn insn) t.behind pad.1 in
    let low = number_of 4 _ t.behind.rest (items.Insn insn) t.behind.behind default.1 in
    let tested = t.behind.behind.behind.behind in
    as_range insn _ tested.1.behind.1 (sfits_to_z {w = w32} record { fits = low.0 })

lookup_range : (at : ℕ) (rest : List ℕ) (insn : Insn) → AreBytes rest → lookup_operands at rest (items.Insn insn) → IsInRange insn
unfolding lookup_operands arms_in
lookup_range at rest insn are t =
    let pad = piece_of _ _ rest (items.Insn insn) t are in
    let default = number_of 4 _ t.rest (items.Insn insn) t.behind pad.1 in
    let pairs = number_of 4 _ t.behind.rest (items.Insn insn) t.behind.behind default.1 in
    let tested = t.behind.behind.behind in
    let arms = piece_of _ _ t.behind.behind.rest (items.Insn insn) tested.1 pairs.1 in
    as_range insn _ tested.1.behind.1.1 (keys_fit at _ tested.1.value arms.0)

-- ---- an instruction

range : (at : ℕ) (form : Form) (op : ℕ) (rest : List ℕ) (insn : Insn) → AreBytes rest → operands at form op rest (items.Insn insn) → IsInRange insn
unfolding operands
range at forms.Simple op rest insn are t = as_range insn (insns.Simple op) t.1 tt
range at forms.PushByte op rest insn are t =
    let value = byte_of _ rest (items.Insn insn) t are in
    as_range insn (insns.Push op (cast_signed w8 t.value)) t.behind.1 (short_byte t.value value.0)
range at forms.PushShort op rest insn are t =
    let value = number_of 2 _ rest (items.Insn insn) t are in
    as_range insn (insns.Push op (cast_signed w16 t.value)) t.behind.1 (sfits_to_z {w = w16} record { fits = value.0 })
range at forms.ConstantByte op rest insn are t =
    let place = (byte_of _ rest (items.Insn insn) t are).0 in
    as_range insn (insns.Constant t.value) t.behind.1 (omega (arith, place))
range at forms.ConstantShort op rest insn are t =
    as_range insn (insns.Constant t.value) t.behind.1 (number_of 2 _ rest (items.Insn insn) t are).0
range at forms.Constant2 op rest insn are t = as_range insn (insns.Constant2 t.value) t.behind.1 (number_of 2 _ rest (items.Insn insn) t are).0
range at forms.Local op rest insn are t =
    let slot = (byte_of _ rest (items.Insn insn) t are).0 in
    as_range insn (insns.Local op t.value) t.behind.1 (omega (arith, slot))
range at forms.ShortLoad op rest insn are t =
    as_range insn (insns.Local (opcode.iload + (op - opcode.iload_0) / 4) ((op - opcode.iload_0) % 4)) t.1 (omega arith)
range at forms.ShortStore op rest insn are t =
    as_range insn (insns.Local (opcode.istore + (op - opcode.istore_0) / 4) ((op - opcode.istore_0) % 4)) t.1 (omega arith)
range at forms.Inc op rest insn are t =
    let slot = byte_of _ rest (items.Insn insn) t are in
    let by = byte_of _ t.rest (items.Insn insn) t.behind slot.1 in
    let low = slot.0 in
    as_range insn (insns.Inc t.value (cast_signed w8 t.behind.value)) t.behind.behind.1 (omega (arith, low), short_byte t.behind.value by.0)
range at forms.Jump op rest insn are t = as_range insn _ t.behind.1 tt
range at forms.WideJump op rest insn are t = as_range insn _ t.behind.1 tt
range at forms.Subroutine op rest insn are t = absurd (not_subroutine insn t.1)
range at forms.Table op rest insn are t = table_range at rest insn are t
range at forms.Lookup op rest insn are t = lookup_range at rest insn are t
range at forms.Member op rest insn are t = as_range insn (insns.Member op t.value) t.behind.1 (number_of 2 _ rest (items.Insn insn) t are).0
range at forms.Interface op rest insn are t =
    as_range insn (insns.Interface t.value t.behind.value) t.behind.behind.behind.1 (number_of 2 _ rest (items.Insn insn) t are).0
range at forms.Dynamic op rest insn are t = as_range insn (insns.Dynamic t.value) t.behind.behind.1 (number_of 2 _ rest (items.Insn insn) t are).0
range at forms.OfClass op rest insn are t = as_range insn (insns.OfClass op t.value) t.behind.1 (number_of 2 _ rest (items.Insn insn) t are).0
range at forms.NewArray op rest insn are t = as_range insn (insns.NewArray t.value) t.behind.1.1 tt
range at forms.Multi op rest insn are t =
    as_range insn (insns.Multi t.value t.behind.value) t.behind.behind.1.1 (number_of 2 _ rest (items.Insn insn) t are).0
range at forms.Wide op rest insn are t =
    let code = byte_of _ rest (items.Insn insn) t are in wide_range (form_of t.value) t.value t.rest insn code.1 t.behind
range at forms.Unknown op rest insn are t = absurd t

item_range : (at : ℕ) (text : List ℕ) (insn : Insn) → AreBytes text → IsItem at text (items.Insn insn) → IsInRange insn
unfolding IsItem
item_range at text insn are t = let op = byte_of _ text (items.Insn insn) t are in range at (form_of t.value) t.value t.rest insn op.1 t.behind

-- ---- code

from_range : (at : ℕ) (bytes : List ℕ) (code : List Insn) (starts : List ℕ) → AreBytes bytes → SpellsFrom at bytes code starts → All IsInRange code
from_range at bytes [] starts are s = All-nil IsInRange
from_range at bytes (insn ∷ code) starts are (text, rest, later, parts, starts_are, item, more) =
    let split = both_bytes text rest (subst AreBytes parts are) in
    All-cons IsInRange insn code (item_range at text insn split.0 item) (from_range (at + length text) rest code later split.1 more)

-- the numbers in code that was read of bytes fit
pub code_range : (bytes : List ℕ) (code : List Insn) (starts : List ℕ) → AreBytes bytes → Spells bytes code starts → All IsInRange code
code_range bytes code starts are s =
    let each = from_range 0 bytes s.spelled starts are s.text in
    subst (All IsInRange) (sym s.places)
    (All-map IsInRange (with_places (insn_number starts)) s.spelled (λ k d lt. in_range_with (insn_number starts) _ (each k d lt)))
