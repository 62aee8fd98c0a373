-- The shortest spelling of a switch is a spelling.
use Rattle.std.proofs.Common.{◌≡◌, ℕ, ◌+◌, ◌-◌, ◌*◌, ◌/◌, ◌<◌, ◌≤◌, true, List, [], ◌∷◌, ◌++◌, length, drop, All, refl, sym, ◌∙◌, ap, subst, arith, rules, w32, ℤ, pos, length-append, append_assoc}
use Rattle.std.specs.Prelude.{FitsSigned, int_le, int_lt, unsigned_abs, ◌+ℤ◌, ◌-ℤ◌, ◌≤ℤ◌}
use Rattle.std.specs.List.{flat_map}
use Rattle.std.specs.Int.{cast_signed, cast_unsigned}
use Rattle.std.proofs.lemmas.Int.{ints}
use Rattle.std.proofs.lemmas.List.{append-nil, drop_at, length-replicate}
use Rattle.std.proofs.lemmas.Bool.{lt-ltb}
use Rattle.byteorder.specs.Endian.{big_number}
use Rattle.jc_methods.specs.Opcode as opcode
use Rattle.jc_bytes.proofs.DecoderLaws.{big_front}
use Rattle.jc_methods.specs.declared.form.Form.TheVariants as forms
use Rattle.jc_methods.proofs.InsnFormLaws.{named_forms}
use Rattle.jc_methods.specs.declared.insn.Insn.TheVariants as insns
use Rattle.jc_methods.specs.declared.insn.Arm.{Arm}
use Rattle.jc_methods.specs.Insn.{IsAscending}
use Rattle.jc_insn.specs.declared.item.CodeItem.TheVariants as items
use Rattle.jc_insn.specs.Fields.{nothing, piece, Then, only_if}
use Rattle.jc_insn.specs.Items.{padding, key_count, target_of, in_pieces, offset_in, offsets_in, arm_in, arms_in, ascending, table_operands, lookup_operands, operands, IsItem}
use Rattle.jc_insn.specs.Writing.{difference, arm_text, pad_text, last_key, table_text, lookup_text}
use Rattle.jc_insn.proofs.ReadBackLaws.{big_word, signed_word_back, word_target, word_size}
use Rattle.jc_insn.proofs.OperandsSpelledLaws.{item_of, number_then, piece_then, one_piece, length_pieces, pieces_back, offset_back, le_true, word_fits}
use Rattle.jc_bytes.proofs.BooleanLaws.{test_true}
use Rattle.jc_bytes.specs.BigNumbers.{word}

pub pad_length : (at : ℕ) → length (pad_text at) ≡ padding at
unfolding pad_text
pad_length at = length-replicate (padding at) 0

small_difference : (at to : ℕ) → difference at to < 4294967296
small_difference at to = omega arith

-- ---- tableswitch

abbrev pub offsets_text : ℕ → List ℕ → List ℕ
offsets_text at arms = flat_map (λ to. word (difference at to)) arms

pub offsets_length : (at : ℕ) (arms : List ℕ) → length (offsets_text at arms) ≡ 4 * length arms
offsets_length at arms = length_pieces 4 (λ (to : ℕ). word (difference at to)) arms (λ to. word_size (difference at to))

offsets_back : (at : ℕ) (arms : List ℕ) → at < 4294967296 → All (λ to. to < 4294967296) arms → offsets_in at (offsets_text at arms) ≡ arms
unfolding offsets_in
offsets_back at arms at_fits fit =
    let count : length (offsets_text at arms) / 4 ≡ length arms = let e = offsets_length at arms in omega (arith, e) in
    ap (λ (n : ℕ). in_pieces 4 (offset_in at) n (offsets_text at arms)) count
    ∙ pieces_back (λ to. to < 4294967296) 4 (offset_in at) (λ (to : ℕ). word (difference at to)) arms (λ to. word_size (difference at to))
    (λ to rest fits. offset_back at to rest at_fits fits) fit

last_above : (low : ℤ) (count : ℕ) → low ≤ℤ last_key low count
last_above low count = omega (arith, ints)

keys_between : (low : ℤ) (count : ℕ) → 1 ≤ count → key_count low (last_key low count) ≡ count
keys_between low count some = by ((last_key low count) -ℤ low) (let e : ((last_key low count) -ℤ low) ≡ pos (count - 1) = omega (arith, ints) in e)
  where
    by : (z : ℤ) → z ≡ pos (count - 1) → unsigned_abs z + 1 ≡ count
    by z e = ap (λ (y : ℤ). unsigned_abs y + 1) e ∙ omega (arith, some)

last_fits : (low : ℤ) (count : ℕ) → 1 ≤ count → FitsSigned w32 low → (low +ℤ pos count) ≤ℤ pos 2147483648 → FitsSigned w32 (last_key low count)
last_fits low count some fits high = search (rules, ints)

pub table_is : (at default : ℕ) (low : ℤ) (arms : List ℕ) → at < 4294967296 → default < 4294967296 → FitsSigned w32 low → 1 ≤ length arms
    → (low +ℤ pos (length arms)) ≤ℤ pos 2147483648 → All (λ to. to < 4294967296) arms
    → IsItem at (table_text at low default arms) (items.Insn (insns.Table low default arms))
unfolding operands table_operands
table_is at default low arms at_fits default_fits low_fits some high fit =
    let last = last_key low (length arms) in
    let high_fits = last_fits low (length arms) some low_fits high in
    let item = items.Insn (insns.Table low default arms) in
    let low_word = word (cast_unsigned w32 low) in
    let high_word = word (cast_unsigned w32 last) in
    let low_is : cast_signed w32 (cast_unsigned w32 low) ≡ low = signed_word_back low low_fits in
    let high_is : cast_signed w32 (cast_unsigned w32 last) ≡ last = signed_word_back last high_fits in
    let test : int_le (cast_signed w32 (cast_unsigned w32 low)) (cast_signed w32 (cast_unsigned w32 last)) ≡ true = (λ i. int_le (low_is i) (high_is i))
    ∙ le_true low last (last_above low (length arms)) in
    let size : length (offsets_text at arms) ≡ 4 * key_count (cast_signed w32 (cast_unsigned w32 low)) (cast_signed w32 (cast_unsigned w32 last)) =
    offsets_length at arms ∙ ap (λ (n : ℕ). 4 * n) (sym ((λ i. key_count (low_is i) (high_is i)) ∙ keys_between low (length arms) some)) in
    let same : item ≡ items.Insn (insns.Table (cast_signed w32 (cast_unsigned w32 low)) (target_of at (cast_signed w32 (difference at default)))
    (offsets_in at (offsets_text at arms))) =
    (λ i. items.Insn (insns.Table (sym low_is i) (sym (word_target at default at_fits default_fits) i) (sym (offsets_back at arms at_fits fit) i))) in
    item_of at opcode.tableswitch forms.Table (pad_text at ++ (word (difference at default) ++ (low_word ++ (high_word ++ offsets_text at arms)))) item
    (let rows = named_forms in rows.5)
    (piece_then (padding at) _ (pad_text at) (word (difference at default) ++ (low_word ++ (high_word ++ offsets_text at arms))) item (pad_length at)
    (number_then 4 _ (difference at default) (word (difference at default)) (low_word ++ (high_word ++ offsets_text at arms)) item
    (big_word (difference at default) (small_difference at default))
    (number_then 4 _ (cast_unsigned w32 low) low_word (high_word ++ offsets_text at arms) item (big_word (cast_unsigned w32 low) (word_fits low low_fits))
    (number_then 4 _ (cast_unsigned w32 last) high_word (offsets_text at arms) item (big_word (cast_unsigned w32 last) (word_fits last high_fits)) (
      test,
      one_piece (4 * key_count (cast_signed w32 (cast_unsigned w32 low)) (cast_signed w32 (cast_unsigned w32 last)))
          (λ words. items.Insn (insns.Table (cast_signed w32 (cast_unsigned w32 low)) (target_of at (cast_signed w32 (difference at default)))
          (offsets_in at words))) (offsets_text at arms) item size same,
    )))))

-- ---- lookupswitch

arm_size : (at : ℕ) (arm : Arm) → length (arm_text at arm) ≡ 8
arm_size at arm =
    let key = word_size (cast_unsigned w32 arm.key) in
    let to = word_size (difference at arm.to) in
    let all = length-append (word (cast_unsigned w32 arm.key)) (word (difference at arm.to)) in
    omega (arith, key, to, all)

-- the key and the place of an arm have room
pub record ArmFits (arm : Arm) : Type 0 where
  pub key : FitsSigned w32 arm.key
  pub to : arm.to < 4294967296

arm_back : (at : ℕ) (arm : Arm) (rest : List ℕ) → at < 4294967296 → ArmFits arm → arm_in at (arm_text at arm ++ rest) ≡ arm
arm_back at arm rest at_fits fits =
    let key_word = word (cast_unsigned w32 arm.key) in
    let to_word = word (difference at arm.to) in
    let big = big_word (cast_unsigned w32 arm.key) (word_fits arm.key fits.key) in
    let whole : arm_text at arm ++ rest ≡ key_word ++ (to_word ++ rest) = append_assoc key_word to_word rest in
    let key_is : cast_signed w32 (big_number 4 (arm_text at arm ++ rest)) ≡ arm.key =
    ap (λ (l : List ℕ). cast_signed w32 (big_number 4 l)) whole ∙ ap (cast_signed w32) (big_front 4 key_word (to_word ++ rest) big.size ∙ big.value)
    ∙ signed_word_back arm.key fits.key in
    let to_is : offset_in at (drop 4 (arm_text at arm ++ rest)) ≡ arm.to =
    ap (λ (l : List ℕ). offset_in at (drop 4 l)) whole ∙ ap (offset_in at) (drop_at key_word (to_word ++ rest) 4 big.size)
    ∙ offset_back at arm.to rest at_fits fits.to in
    λ i. record { key = key_is i; to = to_is i }

pub arms_length : (at : ℕ) (arms : List Arm) → length (flat_map (arm_text at) arms) ≡ 8 * length arms
arms_length at arms = length_pieces 8 (arm_text at) arms (arm_size at)

arms_back : (at : ℕ) (arms : List Arm) → at < 4294967296 → All ArmFits arms → arms_in at (flat_map (arm_text at) arms) ≡ arms
unfolding arms_in
arms_back at arms at_fits fit =
    let count : length (flat_map (arm_text at) arms) / 8 ≡ length arms = let e = arms_length at arms in omega (arith, e) in
    ap (λ (n : ℕ). in_pieces 8 (arm_in at) n (flat_map (arm_text at) arms)) count
    ∙ pieces_back ArmFits 8 (arm_in at) (arm_text at) arms (arm_size at) (λ arm rest fits. arm_back at arm rest at_fits fits) fit

ascends : (arms : List Arm) → IsAscending arms → ascending arms ≡ true
ascends [] up = refl
ascends (a ∷ []) up = refl
ascends (a ∷ b ∷ arms) up = rw (test_true (int_lt a.key b.key) up.0.lt) (ascends (b ∷ arms) up.1)

pub lookup_is : (at default : ℕ) (arms : List Arm) → at < 4294967296 → default < 4294967296 → length arms < 2147483648 → IsAscending arms
    → All ArmFits arms → IsItem at (lookup_text at default arms) (items.Insn (insns.Lookup default arms))
unfolding operands lookup_operands
lookup_is at default arms at_fits default_fits few up fit =
    let item = items.Insn (insns.Lookup default arms) in
    let text = flat_map (arm_text at) arms in
    let back : arms_in at text ≡ arms = arms_back at arms at_fits fit in
    let test : ascending (arms_in at text) ≡ true = ap ascending back ∙ ascends arms up in
    let same : item ≡ items.Insn (insns.Lookup (target_of at (cast_signed w32 (difference at default))) (arms_in at text)) =
    (λ i. items.Insn (insns.Lookup (sym (word_target at default at_fits default_fits) i) (sym back i))) in
    item_of at opcode.lookupswitch forms.Lookup (pad_text at ++ (word (difference at default) ++ (word (length arms) ++ text))) item (let rows = named_forms in rows.6)
    (piece_then (padding at) _ (pad_text at) (word (difference at default) ++ (word (length arms) ++ text)) item (pad_length at)
    (number_then 4 _ (difference at default) (word (difference at default)) (word (length arms) ++ text) item
    (big_word (difference at default) (small_difference at default))
    (number_then 4 _ (length arms) (word (length arms)) text item (big_word (length arms) (omega (arith, few))) (
      lt-ltb (length arms) 2147483648 few,
      subst (λ (l : List ℕ). Then (piece (8 * length arms)) (λ words. only_if (ascending (arms_in at words))
          (nothing (items.Insn (insns.Lookup (target_of at (cast_signed w32 (difference at default))) (arms_in at words))))) l item) (append-nil text)
          (piece_then (8 * length arms) (λ words. only_if (ascending (arms_in at words))
          (nothing (items.Insn (insns.Lookup (target_of at (cast_signed w32 (difference at default))) (arms_in at words))))) text [] item
          (arms_length at arms) (test, (refl, same))),
    ))))
