-- How many bytes are written of an instruction.
use Rattle.std.proofs.Common.{◌≡◌, ℕ, ◌+◌, ◌-◌, ◌*◌, ◌%◌, Bool, true, false, cond, List, [], ◌∷◌, ◌++◌, length, nat_eq, nat_lt, refl, ap, arith, w16, w32, ℤ, length-append}
use Rattle.std.specs.List.{flat_map}
use Rattle.std.specs.Int.{cast_unsigned}
use Rattle.std.proofs.lemmas.List.{length-map}
use Rattle.jc_bytes.specs.BigNumbers.{short, word}
use Rattle.jc_methods.specs.Opcode as opcode
use Rattle.jc_methods.specs.declared.form.Form.{Form}
use Rattle.jc_methods.specs.declared.form.Form.TheVariants as forms
use Rattle.jc_methods.specs.InsnForm.{form_of}
use Rattle.jc_methods.specs.declared.insn.Insn.{Insn}
use Rattle.jc_methods.specs.declared.insn.Insn.TheVariants as insns
use Rattle.jc_methods.specs.declared.insn.Arm.{Arm}
use Rattle.jc_methods.specs.Insn.{with_places, arm_with_place}
use Rattle.jc_methods.specs.Flow.{inverse_of}
use Rattle.jc_insn.specs.Items.{padding}
use Rattle.jc_insn.specs.Sizes.{size_of, push_size, is_narrow_inc}
use Rattle.jc_insn.specs.Writing.{signed_byte, signed_short, difference, push_text, local_text, inc_text, constant_text, pad_text, arm_text, last_key, table_text, lookup_text, jump_text, insn_text}
use Rattle.jc_insn.proofs.ReadBackLaws.{short_size, word_size}
use Rattle.jc_insn.proofs.SwitchesSpelledLaws.{pad_length, offsets_length, arms_length}

push_text_size : (form : Form) (op : ℕ) (value : ℤ) → length (push_text form op value) ≡ push_size form
push_text_size forms.PushByte op value = refl
push_text_size form op value = let e = short_size (cast_unsigned w16 value) in omega (arith, e)

local_text_size : (op slot : ℕ) → length (local_text op slot) ≡ cond (nat_lt slot 4) 1 (cond (nat_lt slot 256) 2 4)
local_text_size op slot = by (nat_lt slot 4) (nat_lt slot 256)
  where
    by : (a b : Bool) → length (cond a (cond (nat_lt op opcode.istore) (opcode.iload_0 + 4 * (op - opcode.iload) + slot) (opcode.istore_0 + 4 * (op - opcode.istore) + slot) ∷ [])
        (cond b (op ∷ slot ∷ []) (opcode.wide ∷ op ∷ short slot))) ≡ cond a 1 (cond b 2 4)
    by true b = refl
    by false true = refl
    by false false = let e = short_size slot in omega (arith, e)

inc_text_size : (slot : ℕ) (by : ℤ) → length (inc_text slot by) ≡ cond (is_narrow_inc slot by) 3 6
inc_text_size slot by = cases (is_narrow_inc slot by)
  where
    cases : (b : Bool) → length (cond b (opcode.iinc ∷ slot ∷ signed_byte by ∷ []) (opcode.wide ∷ opcode.iinc ∷ short slot ++ signed_short by)) ≡ cond b 3 6
    cases true = refl
    cases false =
        let a = short_size slot in
        let b = short_size (cast_unsigned w16 by) in
        let both = length-append (short slot) (signed_short by) in
        omega (arith, a, b, both)

constant_text_size : (place : ℕ) → length (constant_text place) ≡ cond (nat_lt place 256) 2 3
constant_text_size place = by (nat_lt place 256)
  where
    by : (b : Bool) → length (cond b (opcode.ldc ∷ place ∷ []) (opcode.ldc_w ∷ short place)) ≡ cond b 2 3
    by true = refl
    by false = let e = short_size place in omega (arith, e)

jump_text_size : (at : ℕ) (wide : Bool) (op to : ℕ) → length (jump_text at wide op to) ≡ cond wide (cond (nat_eq op opcode.goto) 5 8) 3
jump_text_size at false op to = let e = short_size (difference at to % 65536) in omega (arith, e)
jump_text_size at true op to = by (nat_eq op opcode.goto)
  where
    by : (b : Bool) → length (cond b (opcode.goto_w ∷ word (difference at to)) (inverse_of op ∷ short 8 ++ opcode.goto_w ∷ word (difference (at + 3) to))) ≡ cond b 5 8
    by true = let e = word_size (difference at to) in omega (arith, e)
    by false =
        let a = short_size 8 in
        let b = word_size (difference (at + 3) to) in
        let both = length-append (short 8) (opcode.goto_w ∷ word (difference (at + 3) to)) in
        omega (arith, a, b, both)

table_text_size : (at : ℕ) (low : ℤ) (default : ℕ) (arms : List ℕ) → length (table_text at low default arms) ≡ 13 + padding at + 4 * length arms
table_text_size at low default arms =
    let places = flat_map (λ to. word (difference at to)) arms in
    let high_word = word (cast_unsigned w32 (last_key low (length arms))) in
    let low_word = word (cast_unsigned w32 low) in
    let default_word = word (difference at default) in
    let p = pad_length at in
    let d = word_size (difference at default) in
    let l = word_size (cast_unsigned w32 low) in
    let h = word_size (cast_unsigned w32 (last_key low (length arms))) in
    let a = offsets_length at arms in
    let e1 = length-append (pad_text at) (default_word ++ (low_word ++ (high_word ++ places))) in
    let e2 = length-append default_word (low_word ++ (high_word ++ places)) in
    let e3 = length-append low_word (high_word ++ places) in
    let e4 = length-append high_word places in
    omega (arith, p, d, l, h, a, e1, e2, e3, e4)

lookup_text_size : (at : ℕ) (default : ℕ) (arms : List Arm) → length (lookup_text at default arms) ≡ 9 + padding at + 8 * length arms
lookup_text_size at default arms =
    let places = flat_map (arm_text at) arms in
    let default_word = word (difference at default) in
    let p = pad_length at in
    let d = word_size (difference at default) in
    let n = word_size (length arms) in
    let a = arms_length at arms in
    let e1 = length-append (pad_text at) (default_word ++ (word (length arms) ++ places)) in
    let e2 = length-append default_word (word (length arms) ++ places) in
    let e3 = length-append (word (length arms)) places in
    omega (arith, p, d, n, a, e1, e2, e3)

with_short : (op place : ℕ) → length (op ∷ short place) ≡ 3
with_short op place = let e = short_size place in omega (arith, e)

short_and_two : (op place a b : ℕ) → length (op ∷ short place ++ (a ∷ b ∷ [])) ≡ 5
short_and_two op place a b = let e = short_size place in let both = length-append (short place) (a ∷ b ∷ []) in omega (arith, e, both)

short_and_one : (op place a : ℕ) → length (op ∷ short place ++ (a ∷ [])) ≡ 4
short_and_one op place a = let e = short_size place in let both = length-append (short place) (a ∷ []) in omega (arith, e, both)

pub text_size : (at : ℕ) (wide : Bool) (insn : Insn) → length (insn_text at wide insn) ≡ size_of at wide insn
unfolding insn_text
text_size at wide (insns.Simple op) = refl
text_size at wide (insns.Push op value) = push_text_size (form_of op) op value
text_size at wide (insns.Local op slot) = local_text_size op slot
text_size at wide (insns.Inc slot by) = inc_text_size slot by
text_size at wide (insns.Constant place) = constant_text_size place
text_size at wide (insns.Constant2 place) = with_short opcode.ldc2_w place
text_size at wide (insns.Member op place) = with_short op place
text_size at wide (insns.Interface place count) = short_and_two opcode.invokeinterface place count 0
text_size at wide (insns.Dynamic place) = short_and_two opcode.invokedynamic place 0 0
text_size at wide (insns.OfClass op place) = with_short op place
text_size at wide (insns.NewArray elem) = refl
text_size at wide (insns.Multi place dims) = short_and_one opcode.multianewarray place dims
text_size at wide (insns.Jump op to) = jump_text_size at wide op to
text_size at wide (insns.Table low default arms) = table_text_size at low default arms
text_size at wide (insns.Lookup default arms) = lookup_text_size at default arms

pub same_size : (f : ℕ → ℕ) (at : ℕ) (wide : Bool) (insn : Insn) → size_of at wide (with_places f insn) ≡ size_of at wide insn
same_size f at wide (insns.Table low default arms) = ap (λ (n : ℕ). 13 + padding at + 4 * n) (length-map arms f)
same_size f at wide (insns.Lookup default arms) = ap (λ (n : ℕ). 9 + padding at + 8 * n) (length-map arms (arm_with_place f))
same_size f at wide insn = refl
