-- What is known of an instruction that is spelled: it is well formed, and its spelling isn't too short.
use Rattle.std.proofs.Common.{◌≡◌, inl, inr, ℕ, zero, suc, ◌+◌, ◌-◌, ◌*◌, ◌/◌, ◌%◌, ◌<◌, ◌≤◌, Bool, true, false, cond, ◌&&◌, List, [], ◌∷◌, ◌++◌, length, drop, All, nat_lt, nat_le, refl, sym, ◌∙◌, ap, subst, arith, w8, w16, w32, ℤ, pos, negsuc, length-append}
use Rattle.std.specs.Prelude.{int_lt, unsigned_abs, ◌+ℤ◌, ◌-ℤ◌, ◌≤ℤ◌}
use Rattle.std.specs.Int.{cast_signed}
use Rattle.std.specs.Int.Signed.{lt_z_yes}
use Rattle.std.proofs.lemmas.Int.{ints}
use Rattle.std.proofs.lemmas.Bool.{and_parts, lt-ltb, ltb-true, ltb-false}
use Rattle.std.proofs.lemmas.Bool.Decides.{nat_tests}
use Rattle.std.proofs.lemmas.Float.{T_from_true}
use Rattle.jc_methods.specs.Opcode as opcode
use Rattle.jc_methods.specs.declared.form.Form.{Form}
use Rattle.jc_methods.specs.declared.form.Form.TheVariants as forms
use Rattle.jc_methods.specs.InsnForm.{form_of}
use Rattle.jc_methods.proofs.InsnFormLaws.{short_load_form, short_store_form, named_forms}
use Rattle.jc_methods.specs.declared.insn.Insn.{Insn}
use Rattle.jc_methods.specs.declared.insn.Insn.TheVariants as insns
use Rattle.jc_methods.specs.declared.insn.Arm.{Arm}
use Rattle.jc_methods.specs.Insn.{IsWellFormed, IsAscending, arm_count}
use Rattle.jc_insn.specs.declared.item.CodeItem.TheVariants as items
use Rattle.jc_insn.specs.Fields.{nothing, byte, piece, Then, only_if}
use Rattle.jc_insn.specs.Items.{number, padding, key_count, target_of, in_pieces, offset_in, offsets_in, arm_in, arms_in, ascending, table_operands, lookup_operands, wide_operands, operands, IsItem}
use Rattle.jc_insn.specs.Sizes.{size_of, push_size, local_size, is_narrow_inc, IsShortest, IsJump}
use Rattle.jc_insn.proofs.TextSizesLaws.{same_size}
use Rattle.jc_insn.proofs.ItemReadingLaws.{insn_is, not_subroutine}
use Rattle.jc_insn.proofs.OperandsSpelledLaws.{le_true, true_le}

-- what is known of an instruction behind whose opcode these bytes stand
pub record Facts (at : ℕ) (rest : List ℕ) (insn : Insn) : Type 0 where
  pub well_formed : IsWellFormed insn
  pub least : All (λ b. b < 256) rest → size_of at false insn ≤ suc (length rest)
  pub few : arm_count insn ≤ length rest

-- the item is this instruction
as_insn : (at : ℕ) (rest : List ℕ) (insn known : Insn) → items.Insn insn ≡ items.Insn known → Facts at rest known → Facts at rest insn
as_insn at rest insn known e facts = subst (Facts at rest) (sym (insn_is insn known e)) facts

no_bytes : (l : List ℕ) → l ≡ [] → length l ≡ 0
no_bytes l e = ap length e

after_number : {Y : Type 0} (n : ℕ) (G : ℕ → List ℕ → Y → Type 0) (bytes : List ℕ) (y : Y) (t : Then (number n) G bytes y) → length bytes ≡ n + length t.rest
after_number n G bytes y t = let e = ap length t.parts in let both = length-append t.front t.rest in let size = t.field.size in omega (arith, e, both, size)

after_byte : {Y : Type 0} (G : ℕ → List ℕ → Y → Type 0) (bytes : List ℕ) (y : Y) (t : Then byte G bytes y) → bytes ≡ t.value ∷ t.rest
after_byte G bytes y t = t.parts ∙ ap (λ (l : List ℕ). l ++ t.rest) t.field

after_piece : {Y : Type 0} (n : ℕ) (G : List ℕ → List ℕ → Y → Type 0) (bytes : List ℕ) (y : Y) (t : Then (piece n) G bytes y)
    → (length bytes ≡ n + length t.rest) × (length t.value ≡ n)
after_piece n G bytes y t =
    let e = ap length t.parts in
    let both = length-append t.front t.rest in
    let size = t.field.0 in
    (omega (arith, e, both, size), sym (ap length t.field.1) ∙ size)

small_byte : (bytes rest : List ℕ) (x : ℕ) → bytes ≡ x ∷ rest → All (λ b. b < 256) bytes → x < 256
small_byte bytes rest x is all = all_at (subst (λ (l : List ℕ). All (λ b. b < 256) l) is all)
  where
    all_at : All (λ b. b < 256) (x ∷ rest) → x < 256
    all_at all = all 0 0 (omega arith)

rest_small : (bytes rest : List ℕ) (x : ℕ) → bytes ≡ x ∷ rest → All (λ b. b < 256) bytes → All (λ b. b < 256) rest
rest_small bytes rest x is all k d below = (subst (λ (l : List ℕ). All (λ b. b < 256) l) is all) (suc k) d (omega (arith, below))

-- a signed byte is from -128 to 127
signed_range : (n : ℕ) → (negsuc 127 ≤ℤ cast_signed w8 n) × (cast_signed w8 n ≤ℤ pos 127)
signed_range n = by (nat_lt n 128) refl
  where
    by : (b : Bool) → nat_lt n 128 ≡ b → (negsuc 127 ≤ℤ cast_signed w8 n) × (cast_signed w8 n ≤ℤ pos 127)
    by true e = rw e (let small = ltb-true n 128 e in (omega (arith, ints), omega (arith, ints, small)))
    by false e = rw e (let big = ltb-false n 128 e in (omega (arith, ints, big), omega (arith, ints)))

signed_word_range : (n : ℕ) → cast_signed w32 n ≤ℤ pos 2147483647
signed_word_range n = by (nat_lt n 2147483648) refl
  where
    by : (b : Bool) → nat_lt n 2147483648 ≡ b → cast_signed w32 n ≤ℤ pos 2147483647
    by true e = rw e (let small = ltb-true n 2147483648 e in omega (arith, ints, small))
    by false e = rw e (omega (arith, ints))

pub cond_most : (b : Bool) (m n k : ℕ) → m ≤ k → n ≤ k → cond b m n ≤ k
cond_most true m n k p q = p
cond_most false m n k p q = q

push_most : (form : Form) → push_size form ≤ 3
push_most forms.PushByte = omega arith
push_most form = omega arith

local_in_byte : (slot : ℕ) → slot < 256 → local_size slot ≤ 2
local_in_byte slot small = rw (lt-ltb slot 256 small) (cond_most (nat_lt slot 4) 1 2 2 (omega arith) (omega arith))

local_most : (slot : ℕ) → local_size slot ≤ 4
local_most slot = cond_most (nat_lt slot 4) 1 _ 4 (omega arith) (cond_most (nat_lt slot 256) 2 4 4 (omega arith) (omega arith))

narrow : (slot by : ℕ) → slot < 256 → is_narrow_inc slot (cast_signed w8 by) ≡ true
narrow slot by small =
    let range = signed_range by in
    rw (lt-ltb slot 256 small, le_true (negsuc 127) (cast_signed w8 by) range.0, le_true (cast_signed w8 by) (pos 127) range.1) refl

length_in_pieces : {X : Type 0} (size : ℕ) (f : List ℕ → X) (n : ℕ) (bytes : List ℕ) → length (in_pieces size f n bytes) ≡ n
length_in_pieces size f zero bytes = refl
length_in_pieces size f (suc n) bytes = let e = length_in_pieces size f n (drop size bytes) in omega (arith, e)

ascending_is : (arms : List Arm) → ascending arms ≡ true → IsAscending arms
ascending_is [] e = tt
ascending_is (a ∷ []) e = tt
ascending_is (a ∷ b ∷ arms) e =
    let both = and_parts (int_lt a.key b.key) (ascending (b ∷ arms)) e in
    (lt_z_yes (T_from_true (int_lt a.key b.key) both.0), ascending_is (b ∷ arms) both.1)

keys_end : (low high : ℤ) → low ≤ℤ high → high ≤ℤ pos 2147483647 → (low +ℤ pos (key_count low high)) ≤ℤ pos 2147483648
keys_end low high up fits = by (high -ℤ low) refl
  where
    by : (z : ℤ) → (high -ℤ low) ≡ z → (low +ℤ pos (unsigned_abs (high -ℤ low) + 1)) ≤ℤ pos 2147483648
    by (pos n) e = rw e (omega (arith, ints))
    by (negsuc n) e = absurd (omega (arith, ints, e, up))

-- ---- by forms

-- an instruction whose size never is above `most`, with no arms, where so many bytes stand behind the opcode
plain : (at : ℕ) (rest : List ℕ) (insn known : Insn) → items.Insn insn ≡ items.Insn known → IsWellFormed known → arm_count known ≡ 0
    → (All (λ b. b < 256) rest → size_of at false known ≤ suc (length rest)) → Facts at rest insn
plain at rest insn known e well none least = as_insn at rest insn known e (record { well_formed = well; least = least; few = omega (arith, none) })

of_number : (at n : ℕ) (f : ℕ → Insn) (rest : List ℕ) (insn : Insn) → Then (number n) (λ v. nothing (items.Insn (f v))) rest (items.Insn insn)
    → ((x : ℕ) → IsWellFormed (f x)) → ((x : ℕ) → arm_count (f x) ≡ 0) → ((x : ℕ) → size_of at false (f x) ≤ suc n) → Facts at rest insn
of_number at n f rest insn t well none most =
    let size = after_number n (λ v. nothing (items.Insn (f v))) rest (items.Insn insn) t in
    let h = most t.value in
    plain at rest insn (f t.value) t.behind.1 (well t.value) (none t.value) (λ small. omega (arith, size, h))

of_byte : (at : ℕ) (f : ℕ → Insn) (rest : List ℕ) (insn : Insn) → Then byte (λ v. nothing (items.Insn (f v))) rest (items.Insn insn)
    → ((x : ℕ) → IsWellFormed (f x)) → ((x : ℕ) → arm_count (f x) ≡ 0) → ((x : ℕ) → x < 256 → size_of at false (f x) ≤ 2) → Facts at rest insn
of_byte at f rest insn t well none most =
    let is = after_byte (λ v. nothing (items.Insn (f v))) rest (items.Insn insn) t in
    plain at rest insn (f t.value) t.behind.1 (well t.value) (none t.value)
    (λ small. let h = most t.value (small_byte rest t.rest t.value is small) in let e = ap length is in omega (arith, h, e))

wide_facts : (at : ℕ) (form : Form) (op : ℕ) (rest : List ℕ) (insn : Insn) → form_of op ≡ form → wide_operands form op rest (items.Insn insn)
    → (IsWellFormed insn) × (size_of at false insn ≤ 2 + length rest) × (arm_count insn ≡ 0)
unfolding wide_operands
wide_facts at forms.Local op rest insn is t =
    let size = after_number 2 (λ v. nothing (items.Insn (insns.Local op v))) rest (items.Insn insn) t in
    let most = local_most t.value in
    subst (λ (i : Insn). (IsWellFormed i) × (size_of at false i ≤ 2 + length rest) × (arm_count i ≡ 0))
    (sym (insn_is insn (insns.Local op t.value) t.behind.1)) (is, omega (arith, size, most), refl)
wide_facts at forms.Inc op rest insn is t =
    let size = after_number 2 (λ s. Then (number 2) (λ b. nothing (items.Insn (insns.Inc s (cast_signed w16 b))))) rest (items.Insn insn) t in
    let more = after_number 2 (λ b. nothing (items.Insn (insns.Inc t.value (cast_signed w16 b)))) t.rest (items.Insn insn) t.behind in
    let most = cond_most (is_narrow_inc t.value (cast_signed w16 t.behind.value)) 3 6 6 (omega arith) (omega arith) in
    subst (λ (i : Insn). (IsWellFormed i) × (size_of at false i ≤ 2 + length rest) × (arm_count i ≡ 0))
    (sym (insn_is insn (insns.Inc t.value (cast_signed w16 t.behind.value)) t.behind.behind.1)) (tt, omega (arith, size, more, most), refl)
wide_facts at forms.Subroutine op rest insn is t = absurd (not_subroutine insn t.1.1)
wide_facts at form op rest insn is t = absurd t

table_facts : (at : ℕ) (rest : List ℕ) (insn : Insn) → table_operands at rest (items.Insn insn) → Facts at rest insn
unfolding table_operands offsets_in
table_facts at rest insn t =
    let pad = after_piece (padding at) _ rest (items.Insn insn) t in
    let default = after_number 4 _ t.rest (items.Insn insn) t.behind in
    let low = after_number 4 _ t.behind.rest (items.Insn insn) t.behind.behind in
    let high = after_number 4 _ t.behind.behind.rest (items.Insn insn) t.behind.behind.behind in
    let l = cast_signed w32 t.behind.behind.value in
    let h = cast_signed w32 t.behind.behind.behind.value in
    let count = key_count l h in
    let tested = t.behind.behind.behind.behind in
    let words = after_piece (4 * count) _ t.behind.behind.behind.rest (items.Insn insn) tested.1 in
    let end = no_bytes tested.1.rest tested.1.behind.0 in
    let arms = offsets_in at tested.1.value in
    let arms_count : length arms ≡ count = length_in_pieces 4 (offset_in at) (length tested.1.value / 4) tested.1.value ∙ omega (arith, words.1) in
    let up : l ≤ℤ h = true_le l h tested.0 in
    let fits : (l +ℤ pos (length arms)) ≤ℤ pos 2147483648 = subst (λ (n : ℕ). (l +ℤ pos n) ≤ℤ pos 2147483648) (sym arms_count)
    (keys_end l h up (signed_word_range t.behind.behind.behind.value)) in
    as_insn at rest insn (insns.Table l (target_of at (cast_signed w32 t.behind.value)) arms) tested.1.behind.1
    (record {
      well_formed = (omega (arith, arms_count), fits);
      least = λ small. omega (arith, pad.0, default, low, high, words.0, end, arms_count);
      few = omega (arith, pad.0, default, low, high, words.0, end, arms_count);
    })

lookup_facts : (at : ℕ) (rest : List ℕ) (insn : Insn) → lookup_operands at rest (items.Insn insn) → Facts at rest insn
unfolding lookup_operands arms_in
lookup_facts at rest insn t =
    let pad = after_piece (padding at) _ rest (items.Insn insn) t in
    let default = after_number 4 _ t.rest (items.Insn insn) t.behind in
    let pairs = after_number 4 _ t.behind.rest (items.Insn insn) t.behind.behind in
    let count = t.behind.behind.value in
    let tested = t.behind.behind.behind in
    let words = after_piece (8 * count) _ t.behind.behind.rest (items.Insn insn) tested.1 in
    let last = tested.1.behind in
    let end = no_bytes tested.1.rest last.1.0 in
    let arms = arms_in at tested.1.value in
    let arms_count : length arms ≡ count = length_in_pieces 8 (arm_in at) (length tested.1.value / 8) tested.1.value ∙ omega (arith, words.1) in
    let few = ltb-true count 2147483648 tested.0 in
    as_insn at rest insn (insns.Lookup (target_of at (cast_signed w32 t.behind.value)) arms) last.1.1
    (record {
      well_formed = (omega (arith, arms_count, few), ascending_is arms last.0);
      least = λ small. omega (arith, pad.0, default, pairs, words.0, end, arms_count);
      few = omega (arith, pad.0, default, pairs, words.0, end, arms_count);
    })

facts : (at : ℕ) (form : Form) (op : ℕ) (rest : List ℕ) (insn : Insn) → form_of op ≡ form → operands at form op rest (items.Insn insn) → Facts at rest insn
unfolding operands
facts at forms.Simple op rest insn is t = plain at rest insn (insns.Simple op) t.1 is refl (λ small. omega arith)
facts at forms.PushByte op rest insn is t =
    let two : push_size (form_of op) ≡ 2 = ap push_size is in
    of_byte at (λ v. insns.Push op (cast_signed w8 v)) rest insn t (λ v. inl (is, (signed_range v).0, (signed_range v).1)) (λ v. refl)
    (λ v small. omega (arith, two))
facts at forms.PushShort op rest insn is t =
    let three : push_size (form_of op) ≡ 3 = ap push_size is in
    of_number at 2 (λ v. insns.Push op (cast_signed w16 v)) rest insn t (λ v. inr is) (λ v. refl) (λ v. omega (arith, three))
facts at forms.ConstantByte op rest insn is t = of_byte at (λ v. insns.Constant v) rest insn t (λ v. tt) (λ v. refl)
    (λ v small. rw (lt-ltb v 256 small) (omega arith))
facts at forms.ConstantShort op rest insn is t = of_number at 2 (λ v. insns.Constant v) rest insn t (λ v. tt) (λ v. refl)
    (λ v. cond_most (nat_lt v 256) 2 3 3 (omega arith) (omega arith))
facts at forms.Constant2 op rest insn is t = of_number at 2 (λ v. insns.Constant2 v) rest insn t (λ v. tt) (λ v. refl) (λ v. omega arith)
facts at forms.Local op rest insn is t = of_byte at (λ v. insns.Local op v) rest insn t (λ v. is) (λ v. refl) (λ v small. local_in_byte v small)
facts at forms.ShortLoad op rest insn is t =
    let few : (op - opcode.iload_0) % 4 < 4 = omega arith in
    plain at rest insn (insns.Local (opcode.iload + (op - opcode.iload_0) / 4) ((op - opcode.iload_0) % 4)) t.1 (short_load_form op is) refl
    (λ small. rw (lt-ltb ((op - opcode.iload_0) % 4) 4 few) (omega arith))
facts at forms.ShortStore op rest insn is t =
    let few : (op - opcode.istore_0) % 4 < 4 = omega arith in
    plain at rest insn (insns.Local (opcode.istore + (op - opcode.istore_0) / 4) ((op - opcode.istore_0) % 4)) t.1 (short_store_form op is) refl
    (λ small. rw (lt-ltb ((op - opcode.istore_0) % 4) 4 few) (omega arith))
facts at forms.Inc op rest insn is t =
    let first = after_byte (λ s. Then byte (λ b. nothing (items.Insn (insns.Inc s (cast_signed w8 b))))) rest (items.Insn insn) t in
    let second = after_byte (λ b. nothing (items.Insn (insns.Inc t.value (cast_signed w8 b)))) t.rest (items.Insn insn) t.behind in
    plain at rest insn (insns.Inc t.value (cast_signed w8 t.behind.value)) t.behind.behind.1 tt refl
    (λ small. let a = ap length first in let b = ap length second in rw (narrow t.value t.behind.value (small_byte rest t.rest t.value first small))
    (omega (arith, a, b)))
facts at forms.Jump op rest insn is t = of_number at 2 (λ v. insns.Jump op (target_of at (cast_signed w16 v))) rest insn t (λ v. is) (λ v. refl)
    (λ v. omega arith)
facts at forms.WideJump op rest insn is t = of_number at 4 (λ v. insns.Jump opcode.goto (target_of at (cast_signed w32 v))) rest insn t
    (λ v. let rows = named_forms in rows.4) (λ v. refl) (λ v. omega arith)
facts at forms.Subroutine op rest insn is t = absurd (not_subroutine insn t.1)
facts at forms.Table op rest insn is t = table_facts at rest insn t
facts at forms.Lookup op rest insn is t = lookup_facts at rest insn t
facts at forms.Member op rest insn is t = of_number at 2 (λ v. insns.Member op v) rest insn t (λ v. is) (λ v. refl) (λ v. omega arith)
facts at forms.Interface op rest insn is t =
    let place = after_number 2 (λ p. Then byte (λ c. Then byte (λ any. nothing (items.Insn (insns.Interface p c))))) rest (items.Insn insn) t in
    let count = ap length (after_byte (λ c. Then byte (λ any. nothing (items.Insn (insns.Interface t.value c)))) t.rest (items.Insn insn) t.behind) in
    let zero_byte = ap length (after_byte (λ any. nothing (items.Insn (insns.Interface t.value t.behind.value))) t.behind.rest
    (items.Insn insn) t.behind.behind) in
    plain at rest insn (insns.Interface t.value t.behind.value) t.behind.behind.behind.1 tt refl (λ small. omega (arith, place, count, zero_byte))
facts at forms.Dynamic op rest insn is t =
    let place = after_number 2 (λ p. Then (piece 2) (λ any. nothing (items.Insn (insns.Dynamic p)))) rest (items.Insn insn) t in
    let zeros = after_piece 2 (λ any. nothing (items.Insn (insns.Dynamic t.value))) t.rest (items.Insn insn) t.behind in
    plain at rest insn (insns.Dynamic t.value) t.behind.behind.1 tt refl (λ small. omega (arith, place, zeros.0))
facts at forms.OfClass op rest insn is t = of_number at 2 (λ v. insns.OfClass op v) rest insn t (λ v. is) (λ v. refl) (λ v. omega arith)
facts at forms.NewArray op rest insn is t =
    let e = ap length (after_byte (λ e. only_if (nat_le 4 e && nat_le e 11) (nothing (items.Insn (insns.NewArray e)))) rest (items.Insn insn) t) in
    plain at rest insn (insns.NewArray t.value) t.behind.1.1 (bounds t.value t.behind.0) refl (λ small. omega (arith, e))
  where
    bounds : (elem : ℕ) → (nat_le 4 elem && nat_le elem 11) ≡ true → (4 ≤ elem) × (elem ≤ 11)
    bounds elem test = grind (arith, nat_tests)
facts at forms.Multi op rest insn is t =
    let place = after_number 2 (λ p. Then byte (λ d. only_if (nat_le 1 d) (nothing (items.Insn (insns.Multi p d))))) rest (items.Insn insn) t in
    let dims = ap length (after_byte (λ d. only_if (nat_le 1 d) (nothing (items.Insn (insns.Multi t.value d)))) t.rest (items.Insn insn) t.behind) in
    plain at rest insn (insns.Multi t.value t.behind.value) t.behind.behind.1.1 (some t.behind.value t.behind.behind.0) refl
    (λ small. omega (arith, place, dims))
  where
    some : (dims : ℕ) → nat_le 1 dims ≡ true → 1 ≤ dims
    some dims test = grind (arith, nat_tests)
facts at forms.Wide op rest insn is t =
    let code = ap length (after_byte (λ code. wide_operands (form_of code) code) rest (items.Insn insn) t) in
    let w = wide_facts at (form_of t.value) t.value t.rest insn refl t.behind in
    record { well_formed = w.0; least = λ small. omega (arith, code, w.1); few = omega (arith, w.2) }
facts at forms.Unknown op rest insn is t = absurd t

-- what is known of an instruction with this text
pub record TextFacts (at : ℕ) (text : List ℕ) (insn : Insn) : Type 0 where
  pub well_formed : IsWellFormed insn
  pub least : All (λ b. b < 256) text → size_of at false insn ≤ length text
  pub few : 1 + arm_count insn ≤ length text

pub text_facts : (at : ℕ) (text : List ℕ) (insn : Insn) → IsItem at text (items.Insn insn) → TextFacts at text insn
unfolding IsItem
text_facts at text insn is =
    let parts = after_byte (λ op. operands at (form_of op) op) text (items.Insn insn) is in
    let long = ap length parts in
    let f = facts at (form_of is.value) is.value is.rest insn refl is.behind in
    record {
      well_formed = f.well_formed;
      least = λ small. let h = f.least (rest_small text is.rest is.value parts small) in omega (arith, long, h);
      few = omega (arith, long, f.few);
    }

-- no spelling is shorter than the size
pub is_shortest : (at : ℕ) (insn : Insn) (size : ℕ) → size ≡ size_of at false insn → IsShortest at insn size
is_shortest at insn size is = λ places spelled text same small item.
    let f = text_facts at text spelled item in
    let h = f.least small in
    let e : size_of at false spelled ≡ size = sym (same_size places at false spelled) ∙ ap (size_of at false) same ∙ sym is in
    omega (arith, h, e)

-- only wide jumps take another number of bytes
pub layout_size : (at : ℕ) (wide : Bool) (insn : Insn) → (wide ≡ true → IsJump insn → ⊥) → size_of at wide insn ≡ size_of at false insn
layout_size at false insn other = refl
layout_size at true (insns.Jump op to) other = absurd (other refl tt)
layout_size at true insn other = refl
