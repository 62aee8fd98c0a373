-- What is written of operands is a spelling of them: fields, pieces of one size, local variables.
use Rattle.std.proofs.Common.{◌≡◌, ◌⊎◌, inl, inr, ℕ, ◌+◌, ◌-◌, ◌*◌, ◌/◌, ◌%◌, ◌<◌, ◌≤◌, Bool, true, false, ◌&&◌, List, [], ◌∷◌, ◌++◌, length, All, nat_lt, refl, sym, ◌∙◌, ap, subst, arith, w8, w16, w32, ℤ, pos, negsuc, length-append}
use Rattle.std.proofs.lemmas.List.Elements.{All-head, All-tail}
use Rattle.std.specs.Int.Signed.{le_z_yes}
use Rattle.std.specs.Prelude.{FitsSigned, int_le, ◌≤ℤ◌}
use Rattle.std.specs.List.{flat_map}
use Rattle.std.specs.Int.{cast_signed, cast_unsigned}
use Rattle.std.proofs.lemmas.List.{append-nil, drop_at}
use Rattle.std.proofs.lemmas.Bool.{and_parts, cases_lt, lt-ltb, le-ltb}
use Rattle.std.proofs.lemmas.Float.{T_from_true}
use Rattle.jc_methods.specs.Opcode as opcode
use Rattle.jc_bytes.specs.Decoder.{IsBig}
use Rattle.jc_bytes.proofs.DecoderLaws.{big_front}
use Rattle.jc_bytes.proofs.BooleanLaws.{test_true}
use Rattle.jc_bytes.specs.BigNumbers.{short, word}
use Rattle.jc_methods.specs.declared.form.Form.{Form}
use Rattle.jc_methods.specs.declared.form.Form.TheVariants as forms
use Rattle.jc_methods.specs.InsnForm.{form_of}
use Rattle.jc_methods.proofs.InsnFormLaws.{local_codes, load_form, store_form, named_forms}
use Rattle.jc_methods.specs.declared.insn.Insn.TheVariants as insns
use Rattle.jc_insn.specs.declared.item.CodeItem.{CodeItem}
use Rattle.jc_insn.specs.declared.item.CodeItem.TheVariants as items
use Rattle.jc_insn.specs.Fields.{nothing, byte, piece, Then}
use Rattle.jc_insn.specs.Items.{number, target_of, in_pieces, offset_in, wide_operands, operands, IsItem}
use Rattle.jc_insn.specs.Sizes.{is_narrow_inc}
use Rattle.jc_insn.specs.Writing.{signed_byte, signed_short, difference, short_code, local_text, inc_text}
use Rattle.jc_insn.proofs.ReadBackLaws.{big_short, big_word, signed_byte_back, signed_short_back, word_target}

-- ---- fields

pub item_of : (at op : ℕ) (form : Form) (rest : List ℕ) (item : CodeItem) → form_of op ≡ form → operands at form op rest item → IsItem at (op ∷ rest) item
unfolding IsItem
item_of at op form rest item is behind = record {
  value = op;
  front = op ∷ [];
  rest = rest;
  parts = refl;
  field = refl;
  behind = subst
      (λ (f : Form). operands at f op rest item) (sym is) behind;
}

pub byte_then : {Y : Type 0} (G : ℕ → List ℕ → Y → Type 0) (x : ℕ) (rest : List ℕ) (y : Y) → G x rest y → Then byte G (x ∷ rest) y
byte_then G x rest y g = record { value = x; front = x ∷ []; rest = rest; parts = refl; field = refl; behind = g }

pub number_then : {Y : Type 0} (n : ℕ) (G : ℕ → List ℕ → Y → Type 0) (x : ℕ) (text rest : List ℕ) (y : Y) → IsBig n text x → G x rest y
    → Then (number n) G (text ++ rest) y
number_then n G x text rest y big g = record { value = x; front = text; rest = rest; parts = refl; field = big; behind = g }

pub piece_then : {Y : Type 0} (n : ℕ) (G : List ℕ → List ℕ → Y → Type 0) (text rest : List ℕ) (y : Y) → length text ≡ n → G text rest y
    → Then (piece n) G (text ++ rest) y
piece_then n G text rest y size g = record { value = text; front = text; rest = rest; parts = refl; field = (size, refl); behind = g }

pub one_byte : (f : ℕ → CodeItem) (x : ℕ) (item : CodeItem) → item ≡ f x → Then byte (λ v. nothing (f v)) (x ∷ []) item
one_byte f x item is = byte_then (λ v. nothing (f v)) x [] item (refl, is)

-- a number at the end
pub one_number : (n : ℕ) (f : ℕ → CodeItem) (x : ℕ) (text : List ℕ) (item : CodeItem) → IsBig n text x → item ≡ f x → Then (number n) (λ v. nothing (f v)) text item
one_number n f x text item big is = subst (λ (l : List ℕ). Then (number n) (λ v. nothing (f v)) l item) (append-nil text)
    (number_then n (λ v. nothing (f v)) x text [] item big (refl, is))

pub one_piece : (n : ℕ) (f : List ℕ → CodeItem) (text : List ℕ) (item : CodeItem) → length text ≡ n → item ≡ f text → Then (piece n) (λ v. nothing (f v)) text item
one_piece n f text item size is = subst (λ (l : List ℕ). Then (piece n) (λ v. nothing (f v)) l item) (append-nil text)
    (piece_then n (λ v. nothing (f v)) text [] item size (refl, is))

-- ---- pieces of the same size

pub length_pieces : {X : Type 0} (size : ℕ) (w : X → List ℕ) (xs : List X) → ((x : X) → length (w x) ≡ size) → length (flat_map w xs) ≡ size * length xs
length_pieces size w [] each = omega arith
length_pieces size w (x ∷ xs) each =
    let front = each x in
    let rest = length_pieces size w xs each in
    let both = length-append (w x) (flat_map w xs) in
    omega (arith, front, rest, both)

pub pieces_back : {X : Type 0} (P : X → Type 0) (size : ℕ) (f : List ℕ → X) (w : X → List ℕ) (xs : List X) → ((x : X) → length (w x) ≡ size)
    → ((x : X) (rest : List ℕ) → P x → f (w x ++ rest) ≡ x) → All P xs → in_pieces size f (length xs) (flat_map w xs) ≡ xs
pieces_back P size f w [] each back all = refl
pieces_back P size f w (x ∷ xs) each back all =
    (λ i. back x (flat_map w xs) (All-head P x xs all) i ∷ in_pieces size f (length xs) (drop_at (w x) (flat_map w xs) size (each x) i))
    ∙ ap (λ l. x ∷ l) (pieces_back P size f w xs each back (All-tail P x xs all))

pub offset_back : (at to : ℕ) (rest : List ℕ) → at < 4294967296 → to < 4294967296 → offset_in at (word (difference at to) ++ rest) ≡ to
offset_back at to rest at_fits to_fits =
    let small : difference at to < 4294967296 = omega arith in
    let big = big_word (difference at to) small in
    ap (λ (n : ℕ). target_of at (cast_signed w32 n)) (big_front 4 (word (difference at to)) rest big.size ∙ big.value) ∙ word_target at to at_fits to_fits

-- ---- each form

pub wide_form : form_of opcode.wide ≡ forms.Wide
wide_form = let rows = named_forms in rows.10

inc_form : form_of opcode.iinc ≡ forms.Inc
inc_form = let rows = named_forms in rows.3

pub local_is : (at op slot : ℕ) → form_of op ≡ forms.Local → slot < 65536 → IsItem at (local_text op slot) (items.Insn (insns.Local op slot))
unfolding operands wide_operands
local_is at op slot is fits = by (cases_lt slot 4) (cases_lt slot 256)
  where
    load : slot < 4 → opcode.iload ≤ op → op ≤ opcode.aload → IsItem at ((opcode.iload_0 + 4 * (op - opcode.iload) + slot) ∷ []) (items.Insn (insns.Local op slot))
    load few low high =
        let code = opcode.iload_0 + 4 * (op - opcode.iload) + slot in
        let op_is : op ≡ opcode.iload + (code - opcode.iload_0) / 4 = omega (arith, few, low, high) in
        let slot_is : slot ≡ (code - opcode.iload_0) % 4 = omega (arith, few, low, high) in
        item_of at code forms.ShortLoad [] (items.Insn (insns.Local op slot)) (load_form code (omega (arith, low)) (omega (arith, low, high, few)))
        (refl, λ i. items.Insn (insns.Local (op_is i) (slot_is i)))

    store : slot < 4 → opcode.istore ≤ op → op ≤ opcode.astore → IsItem at ((opcode.istore_0 + 4 * (op - opcode.istore) + slot) ∷ []) (items.Insn (insns.Local op slot))
    store few low high =
        let code = opcode.istore_0 + 4 * (op - opcode.istore) + slot in
        let op_is : op ≡ opcode.istore + (code - opcode.istore_0) / 4 = omega (arith, few, low, high) in
        let slot_is : slot ≡ (code - opcode.istore_0) % 4 = omega (arith, few, low, high) in
        item_of at code forms.ShortStore [] (items.Insn (insns.Local op slot)) (store_form code (omega (arith, low)) (omega (arith, low, high, few)))
        (refl, λ i. items.Insn (insns.Local (op_is i) (slot_is i)))

    in_opcode : slot < 4 → ((opcode.iload ≤ op) × (op ≤ opcode.aload)) ⊎ ((opcode.istore ≤ op) × (op ≤ opcode.astore)) → IsItem at (short_code op slot ∷ []) (items.Insn (insns.Local op slot))
    in_opcode few (inl (low, high)) = rw (lt-ltb op opcode.istore (omega (arith, high))) (load few low high)
    in_opcode few (inr (low, high)) = rw (le-ltb op opcode.istore (omega (arith, low))) (store few low high)

    by : (slot < 4) ⊎ (4 ≤ slot) → (slot < 256) ⊎ (256 ≤ slot) → IsItem at (local_text op slot) (items.Insn (insns.Local op slot))
    by (inl few) b = rw (lt-ltb slot 4 few) (in_opcode few (local_codes op is))
    by (inr more) (inl byte_fits) = rw (le-ltb slot 4 more, lt-ltb slot 256 byte_fits)
        (item_of at op forms.Local (slot ∷ []) (items.Insn (insns.Local op slot)) is
        (one_byte (λ v. items.Insn (insns.Local op v)) slot (items.Insn (insns.Local op slot)) refl))
    by (inr more) (inr wide) = rw (le-ltb slot 4 more, le-ltb slot 256 wide)
        (item_of at opcode.wide forms.Wide (op ∷ short slot) (items.Insn (insns.Local op slot)) wide_form
        (byte_then (λ code. wide_operands (form_of code) code) op (short slot) (items.Insn (insns.Local op slot))
        (subst (λ (f : Form). wide_operands f op (short slot) (items.Insn (insns.Local op slot))) (sym is)
        (one_number 2 (λ v. items.Insn (insns.Local op v)) slot (short slot) (items.Insn (insns.Local op slot)) (big_short slot fits) refl))))

pub le_true : (a b : ℤ) → a ≤ℤ b → int_le a b ≡ true
le_true a b h = test_true (int_le a b) h.le

pub true_le : (a b : ℤ) → int_le a b ≡ true → a ≤ℤ b
true_le a b e = le_z_yes (T_from_true (int_le a b) e)

pub short_fits : (z : ℤ) → FitsSigned w16 z → cast_unsigned w16 z < 65536
short_fits (pos n) fits = omega (arith, fits.sfits)
short_fits (negsuc n) fits = omega arith

pub word_fits : (z : ℤ) → FitsSigned w32 z → cast_unsigned w32 z < 4294967296
word_fits (pos n) fits = omega (arith, fits.sfits)
word_fits (negsuc n) fits = omega arith

pub inc_is : (at slot : ℕ) (by : ℤ) → slot < 65536 → FitsSigned w16 by → IsItem at (inc_text slot by) (items.Insn (insns.Inc slot by))
unfolding operands wide_operands
inc_is at slot by slot_fits by_fits = cases (is_narrow_inc slot by) refl
  where
    narrow : is_narrow_inc slot by ≡ true → (negsuc 127 ≤ℤ by) × (by ≤ℤ pos 127)
    narrow e =
        let room = and_parts (nat_lt slot 256) (int_le (negsuc 127) by && int_le by (pos 127)) e in
        let ends = and_parts (int_le (negsuc 127) by) (int_le by (pos 127)) room.1 in
        (true_le (negsuc 127) by ends.0, true_le by (pos 127) ends.1)

    cases : (b : Bool) → is_narrow_inc slot by ≡ b → IsItem at (inc_text slot by) (items.Insn (insns.Inc slot by))
    cases true e = rw e
        (let n = narrow e in
        item_of at opcode.iinc forms.Inc (slot ∷ signed_byte by ∷ []) (items.Insn (insns.Inc slot by)) inc_form
        (byte_then (λ s. Then byte (λ b. nothing (items.Insn (insns.Inc s (cast_signed w8 b))))) slot (signed_byte by ∷ []) (items.Insn (insns.Inc slot by))
        (one_byte (λ b. items.Insn (insns.Inc slot (cast_signed w8 b))) (signed_byte by) (items.Insn (insns.Inc slot by))
        (ap (λ (z : ℤ). items.Insn (insns.Inc slot z)) (sym (signed_byte_back by n.0 n.1))))))
    cases false e = rw e
        (item_of at opcode.wide forms.Wide (opcode.iinc ∷ short slot ++ signed_short by) (items.Insn (insns.Inc slot by)) wide_form
        (byte_then (λ code. wide_operands (form_of code) code) opcode.iinc (short slot ++ signed_short by) (items.Insn (insns.Inc slot by))
        (subst (λ (f : Form). wide_operands f opcode.iinc (short slot ++ signed_short by) (items.Insn (insns.Inc slot by))) (sym inc_form)
        (number_then 2 (λ s. Then (number 2) (λ b. nothing (items.Insn (insns.Inc s (cast_signed w16 b))))) slot (short slot) (signed_short by)
        (items.Insn (insns.Inc slot by)) (big_short slot slot_fits)
        (one_number 2 (λ b. items.Insn (insns.Inc slot (cast_signed w16 b))) (cast_unsigned w16 by) (signed_short by) (items.Insn (insns.Inc slot by))
        (big_short (cast_unsigned w16 by) (short_fits by by_fits))
        (ap (λ (z : ℤ). items.Insn (insns.Inc slot z)) (sym (signed_short_back by by_fits))))))))
