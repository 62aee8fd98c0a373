-- Instrumented code that is laid out is a list of bytes.
use Rattle.std.proofs.Common.{◌≡◌, ◌⊎◌, inl, inr, ℕ, zero, suc, ◌+◌, ◌*◌, ◌-◌, ◌<◌, ◌≤◌, ◌%◌, Bool, true, false, List, [], ◌∷◌, ◌++◌, length, map, replicate, Option, Some, None, slice_index, if◌then◌else◌, refl, sym, ◌∙◌, subst, arith, nat_eq, nat_lt, nat_le}
use Rattle.std.specs.Prelude.{ℤ}
use Rattle.std.specs.Int.{w16, cast_unsigned}
use Rattle.std.specs.List.{flat_map, AllByRecursion}
use Rattle.std.proofs.Math.Nat.{mod-lt}
use Rattle.std.proofs.lemmas.Bool.{cases_lt, and_parts, ltb-true}
use Rattle.std.proofs.lemmas.List.Elements.{recursion_from_All}
use Rattle.jc_methods.specs.declared.probe_members.Fetch.{Fetch}
use Rattle.jc_bytes.specs.ByteLists.{AreBytes}
use Rattle.jc_methods.specs.Flow.{flow_of, jump_target, inverse_of}
use Rattle.jc_methods.specs.Insn.{with_places, IsWellFormed}
use Rattle.jc_methods.specs.InsnForm.{form_of}
use Rattle.jc_methods.specs.Opcode as opcode
use Rattle.jc_methods.specs.ProbeMembers.{most_short}
use Rattle.jc_bytes.specs.PlainLists.{pieces}
use Rattle.jc_methods.specs.WellMade.{IsWellMadeOfAnySize}
use Rattle.jc_methods.specs.Widened.{inverted}
use Rattle.jc_methods.specs.declared.body.Body.{Body}
use Rattle.jc_methods.specs.declared.form.Form.{Form}
use Rattle.jc_methods.specs.declared.form.Form.TheVariants as forms
use Rattle.jc_methods.specs.declared.insn.Arm.{Arm}
use Rattle.jc_methods.specs.declared.insn.Flow.{Flow}
use Rattle.jc_methods.specs.declared.insn.Flow.TheVariants as flows
use Rattle.jc_methods.specs.declared.insn.Insn.{Insn}
use Rattle.jc_methods.specs.declared.insn.Insn.TheVariants as insns
use Rattle.jc_methods.specs.declared.probe_members.Fetch.TheVariants as fetches
use Rattle.jc_bytes.proofs.OneTextLaws.{both_bytes}
use Rattle.jc_bytes.specs.BigNumbers.{short, word}
use Rattle.jc_methods.proofs.InsnFormLaws.{unknown_beyond, local_codes}
use Rattle.jc_kinds_after.specs.Shift.{with_slot}
use Rattle.jc_insn.specs.Items.{padding, IsItem, operands, wide_operands, table_operands, lookup_operands}
use Rattle.jc_methods.specs.Widened.{WideSet}
use Rattle.jc_insn.specs.Sizes.{is_narrow_inc}
use Rattle.jc_insn.specs.Spells.{Spells, SpellsFrom}
use Rattle.jc_insn.specs.Writing.{difference, signed_byte, signed_short, push_text, short_code, local_text, inc_text, constant_text, jump_text, arm_text, pad_text, insn_text, code_text}
use Rattle.jc_insn.specs.declared.item.CodeItem.TheVariants as items
use Rattle.jc_insn.proofs.PlacesLaws.{well_formed_with}
use Rattle.jc_insn.proofs.ItemReadingLaws.{insn_is, not_subroutine}
use Rattle.jc_plan.proofs.CountLaws.{each_joined}
use Rattle.jc_plan.specs.Plan.{lead_probe}
use Rattle.jc_plan.specs.Probed.{probe_of}
use Rattle.jc_plan.specs.declared.branch.Branch.{Branch}
use Rattle.jc_emit.specs.Items.{Item, insn_of, lead_part, early_part, hop_part, arm_parts, tests_part, image_part, lead_of, land_of, prelude, segment, twin_items}
use Rattle.jc_emit.specs.Marks.{push, push_by, unplaced}
use Rattle.jc_emit.specs.Stages.{emitted_code}
use Rattle.jc_emit.specs.Sizes.{narrow, insn_at, early_probe, late_probe, arms_at}
use Rattle.jc_emit.specs.TwinCode.{to_of}
use Rattle.jc_emit.specs.Written.{integer_in}
use Rattle.jc_layout.specs.LaidBody.{constant_size, ready_code, with_operand, with_place}
use Rattle.jc_layout.specs.Layout.{chosen, chosen_starts, chosen_text}
use Rattle.jc_layout.proofs.FormedLaws.{inverse_form}
use Rattle.jc_layout.proofs.LayableLaws.{all_formed, ready_formed}
use Rattle.jc_instrument.specs.Constants.{probed_code}
use Rattle.jc_instrument.specs.declared.constants.ProbeConstants.{ProbeConstants}
use Rattle.jc_instrument_laws.proofs.ClassSpellingLaws.{bytes_both, big_bytes_are}

pub short_are : (x : ℕ) → AreBytes (short x)
unfolding short
short_are x = big_bytes_are 2 x

pub word_are : (x : ℕ) → AreBytes (word x)
unfolding word
word_are x = big_bytes_are 4 x

-- ---- the text of one instruction

-- the operands of one byte that are written as they are
abbrev pub HasByte : Insn → Type 0
HasByte (insns.Interface place count) = count < 256
HasByte (insns.Multi place dims) = dims < 256
HasByte insn = Unit {0}

known_form : (op : ℕ) (form : Form) → form_of op ≡ form → (form ≡ forms.Unknown → ⊥) → op < 256
known_form op form is known = by (cases_lt op 202)
  where
    by : (op < 202) ⊎ (202 ≤ op) → op < 256
    by (inl below) = omega (arith, below)
    by (inr above) = absurd (known (sym is ∙ unknown_beyond op above))

zeros_are : (n : ℕ) → AreBytes (replicate n 0)
zeros_are zero = tt
zeros_are (suc n) = (omega arith, zeros_are n)

pad_are : (at : ℕ) → AreBytes (pad_text at)
unfolding pad_text
pad_are at = zeros_are (padding at)

signed_are : (z : ℤ) → signed_byte z < 256
signed_are z = mod-lt (cast_unsigned w16 z) (let e : zero < 256 = omega arith in e)

pub push_are : (form : Form) (op : ℕ) (value : ℤ) → op < 256 → AreBytes (push_text form op value)
push_are forms.PushByte op value small = (small, (signed_are value, tt))
push_are form op value small = (small, short_are (cast_unsigned w16 value))

short_code_small : (op slot : ℕ) → op ≤ 58 → slot < 4 → short_code op slot < 256
short_code_small op slot few small = by (nat_lt op opcode.istore)
  where
    by : (t : Bool) → (if t then opcode.iload_0 + 4 * (op - opcode.iload) + slot else opcode.istore_0 + 4 * (op - opcode.istore) + slot) < 256
    by true = omega (arith, few, small)
    by false = omega (arith, few, small)

local_few : (op : ℕ) → form_of op ≡ forms.Local → op ≤ 58
local_few op is = by (local_codes op is)
  where
    by : ((21 ≤ op) × (op ≤ 25)) ⊎ ((54 ≤ op) × (op ≤ 58)) → op ≤ 58
    by (inl load) = let most = load.1 in omega (arith, most)
    by (inr store) = store.1

local_are : (op slot : ℕ) → op ≤ 58 → AreBytes (local_text op slot)
local_are op slot few = by (nat_lt slot 4) refl (nat_lt slot 256) refl
  where
    by : (t : Bool) → nat_lt slot 4 ≡ t → (u : Bool) → nat_lt slot 256 ≡ u
        → AreBytes (if t then short_code op slot ∷ [] else if u then op ∷ slot ∷ [] else opcode.wide ∷ op ∷ short slot)
    by true is u also = (short_code_small op slot few (ltb-true slot 4 is), tt)
    by false is true also = (omega (arith, few), (ltb-true slot 256 also, tt))
    by false is false also = (omega arith, (omega (arith, few), short_are slot))

inc_are : (slot : ℕ) (value : ℤ) → AreBytes (inc_text slot value)
inc_are slot value = by (is_narrow_inc slot value) refl
  where
    by : (t : Bool) → is_narrow_inc slot value ≡ t
        → AreBytes (if t then opcode.iinc ∷ slot ∷ signed_byte value ∷ [] else opcode.wide ∷ opcode.iinc ∷ short slot ++ signed_short value)
    by true is = (omega arith, (ltb-true slot 256 (and_parts (nat_lt slot 256) _ is).0, (signed_are value, tt)))
    by false is = (omega arith, (omega arith, bytes_both (short slot) (signed_short value) (short_are slot) (short_are (cast_unsigned w16 value))))

constant_are : (place : ℕ) → AreBytes (constant_text place)
constant_are place = by (nat_lt place 256) refl
  where
    by : (t : Bool) → nat_lt place 256 ≡ t → AreBytes (if t then opcode.ldc ∷ place ∷ [] else opcode.ldc_w ∷ short place)
    by true is = (omega arith, (ltb-true place 256 is, tt))
    by false is = (omega arith, short_are place)

jump_are : (at : ℕ) (wide : Bool) (op to : ℕ) → form_of op ≡ forms.Jump → AreBytes (jump_text at wide op to)
jump_are at false op to is = (known_form op forms.Jump is (λ e. cc), short_are (difference at to % 65536))
jump_are at true op to is = by (nat_eq op opcode.goto)
  where
    by : (t : Bool) → AreBytes (if t then opcode.goto_w ∷ word (difference at to) else inverse_of op ∷ short 8 ++ opcode.goto_w ∷ word (difference (at + 3) to))
    by true = (omega arith, word_are (difference at to))
    by false = (
      known_form (inverse_of op) forms.Jump (inverse_form op is) (λ e. cc),
      bytes_both (short 8) (opcode.goto_w ∷ word (difference (at + 3) to)) (short_are 8) (omega arith, word_are (difference (at + 3) to)),
    )

words_are : (at : ℕ) (arms : List ℕ) → AreBytes (flat_map (λ to. word (difference at to)) arms)
words_are at [] = tt
words_are at (to ∷ arms) = bytes_both (word (difference at to)) (flat_map (λ to. word (difference at to)) arms) (word_are (difference at to))
    (words_are at arms)

arms_are : (at : ℕ) (arms : List Arm) → AreBytes (flat_map (arm_text at) arms)
arms_are at [] = tt
arms_are at (arm ∷ arms) =
    bytes_both (arm_text at arm) (flat_map (arm_text at) arms)
    (bytes_both (word _) (word (difference at arm.to)) (word_are _) (word_are (difference at arm.to)))
    (arms_are at arms)

insn_are : (at : ℕ) (wide : Bool) (insn : Insn) → IsWellFormed insn → HasByte insn → AreBytes (insn_text at wide insn)
unfolding insn_text
insn_are at wide (insns.Simple op) is small = (known_form op forms.Simple is (λ e. cc), tt)
insn_are at wide (insns.Push op value) (inl is) small = push_are (form_of op) op value (known_form op forms.PushByte is.0 (λ e. cc))
insn_are at wide (insns.Push op value) (inr is) small = push_are (form_of op) op value (known_form op forms.PushShort is (λ e. cc))
insn_are at wide (insns.Local op slot) is small = local_are op slot (local_few op is)
insn_are at wide (insns.Inc slot value) is small = inc_are slot value
insn_are at wide (insns.Constant place) is small = constant_are place
insn_are at wide (insns.Constant2 place) is small = (omega arith, short_are place)
insn_are at wide (insns.Member op place) is small = (known_form op forms.Member is (λ e. cc), short_are place)
insn_are at wide (insns.Interface place count) is small =
    (omega arith, bytes_both (short place) (count ∷ 0 ∷ []) (short_are place) (small, (omega arith, tt)))
insn_are at wide (insns.Dynamic place) is small = (omega arith, bytes_both (short place) (0 ∷ 0 ∷ []) (short_are place) (omega arith, (omega arith, tt)))
insn_are at wide (insns.OfClass op place) is small = (known_form op forms.OfClass is (λ e. cc), short_are place)
insn_are at wide (insns.NewArray elem) is small = let most = is.1 in (omega arith, (omega (arith, most), tt))
insn_are at wide (insns.Multi place dims) is small = (omega arith, bytes_both (short place) (dims ∷ []) (short_are place) (small, tt))
insn_are at wide (insns.Jump op to) is small = jump_are at wide op to is
insn_are at wide (insns.Table low default arms) is small = (
  omega arith,
  bytes_both (pad_text at) _ (pad_are at)
      (bytes_both (word (difference at default)) _ (word_are (difference at default))
      (bytes_both (word _) _ (word_are _) (bytes_both (word _) _ (word_are _) (words_are at arms)))),
)
insn_are at wide (insns.Lookup default arms) is small = (
  omega arith,
  bytes_both (pad_text at) _ (pad_are at)
      (bytes_both (word (difference at default)) _ (word_are (difference at default))
      (bytes_both (word (length arms)) _ (word_are (length arms)) (arms_are at arms))),
)

-- ---- that of all instructions

places_byte : (f : ℕ → ℕ) (insn : Insn) → HasByte insn → HasByte (with_places f insn)
places_byte f (insns.Interface place count) small = small
places_byte f (insns.Multi place dims) small = small
places_byte f insn small = tt

code_are : (places : ℕ → ℕ) (wide : WideSet) (n : ℕ) (code : List Insn) (starts : List ℕ) → AllByRecursion IsWellFormed code
    → AllByRecursion HasByte code → AreBytes (code_text places wide n code starts)
code_are places wide n [] starts formed small = tt
code_are places wide n (insn ∷ code) [] formed small = tt
code_are places wide n (insn ∷ code) (at ∷ starts) formed small =
    bytes_both (insn_text at (wide n) (with_places places insn)) (code_text places wide (suc n) code starts)
    (insn_are at (wide n) (with_places places insn) (well_formed_with places insn formed.0) (places_byte places insn small.0))
    (code_are places wide (suc n) code starts formed.1 small.1)

operand_are : (offset place : ℕ) (bytes : List ℕ) → AreBytes bytes → AreBytes (with_operand offset place bytes)
operand_are zero place [] are = tt
operand_are zero place (a ∷ []) are = are
operand_are zero place (a ∷ b ∷ []) are = are
operand_are zero place (op ∷ high ∷ low ∷ bytes) are = (are.0, bytes_both (short place) bytes (short_are place) are.1.1.1)
operand_are (suc offset) place [] are = tt
operand_are (suc offset) place (a ∷ bytes) are = (are.0, operand_are offset place bytes are.1)

pub placed_are : (fetch : Fetch) (giver array : ℕ) (bytes : List ℕ) → AreBytes bytes → AreBytes (with_place fetch giver array bytes)
placed_are fetches.Member giver array bytes are = operand_are 0 giver bytes are
placed_are fetches.Constant giver array bytes are = operand_are (constant_size giver) array bytes are

-- ---- the code of a body

slot_byte : (v : ℕ) (insn : Insn) → HasByte insn → HasByte (with_slot v insn)
slot_byte v (insns.Local op slot) small = tt
slot_byte v (insns.Inc slot n) small = tt
slot_byte v insn small = small

inverted_byte : (to : ℕ) (insn : Insn) → HasByte insn → HasByte (inverted to insn)
inverted_byte to (insns.Jump op other) small = tt
inverted_byte to insn small = small

push_byte : (n : ℕ) → HasByte (push n)
push_byte n = by (nat_le n 5) (nat_le n 127) _ _ _ tt tt tt
  where
    by : (t u : Bool) (x y z : Insn) → HasByte x → HasByte y → HasByte z → HasByte (if t then x else if u then y else z)
    by true u x y z p q r = p
    by false true x y z p q r = q
    by false false x y z p q r = r

push_by_byte : (integer : ℕ → ℕ) (n : ℕ) → HasByte (push_by integer n)
push_by_byte integer n = by (nat_le n most_short)
  where
    by : (t : Bool) → HasByte (if t then push n else insns.Constant (integer n))
    by true = push_byte n
    by false = tt

module _ (constants : ProbeConstants) (b : Body) (first : ℕ) (small : AllByRecursion HasByte b.code) where
  abbrev ItemByte : Item → Type 0
  ItemByte x = HasByte (insn_of (unplaced (integer_in constants.integers)) b.arg_slots x)

  abbrev AllItems : List Item → Type 0
  AllItems xs = AllByRecursion ItemByte xs

  at_byte : (code : List Insn) → AllByRecursion HasByte code → (i : ℕ) → HasByte (insn_at code i)
  at_byte [] all i = tt
  at_byte (x ∷ code) all zero = all.0
  at_byte (x ∷ code) all (suc i) = at_byte code all.1 i

  lead_byte : (o : Option ℕ) (i : ℕ) → AllItems (lead_part o i)
  lead_byte None i = tt
  lead_byte (Some id) i = (tt, (push_by_byte (integer_in constants.integers) id, (tt, (tt, tt))))

  early_byte : (o : Option ℕ) (i : ℕ) → AllItems (early_part o i)
  early_byte None i = tt
  early_byte (Some id) i = (tt, (push_by_byte (integer_in constants.integers) id, (tt, (tt, tt))))

  hop_byte : (land : ℕ → ℕ) (o : Option ℕ) (to : ℕ) → AllItems (hop_part land o to)
  hop_byte land None to = tt
  hop_byte land (Some id) to = (tt, (push_by_byte (integer_in constants.integers) id, (tt, (tt, (tt, tt)))))

  arms_byte : (land : ℕ → ℕ) (xs : List Branch) → AllItems (arm_parts land (probe_of b first) xs)
  arms_byte land [] = tt
  arms_byte land (x ∷ xs) = each_joined ItemByte (hop_part land (probe_of b first x) (to_of x)) (arm_parts land (probe_of b first) xs)
      (hop_byte land (probe_of b first x) (to_of x)) (arms_byte land xs)

  tests_byte : (i : ℕ) (insn : Insn) (o : Option ℕ) → HasByte insn → AllItems (tests_part b first (narrow constants.fetch) i insn o)
  tests_byte i insn None h = (places_byte (land_of b first (narrow constants.fetch)) insn h, tt)
  tests_byte i insn (Some id) h =
      (inverted_byte (lead_of b first (narrow constants.fetch) (i + 1)) insn h, hop_byte (land_of b first (narrow constants.fetch)) (Some id) (jump_target insn))

  image_byte : (i : ℕ) (insn : Insn) (flow : Flow) → HasByte insn → AllItems (image_part b first (narrow constants.fetch) i insn flow)
  image_byte i insn flows.GoesOn h = (slot_byte b.arg_slots insn h, tt)
  image_byte i insn flows.Branches h = tests_byte i insn (late_probe b first i) h
  image_byte i insn flows.Jumps h = (places_byte (land_of b first (narrow constants.fetch)) insn h, tt)
  image_byte i insn flows.Switches h = (places_byte _ insn h, arms_byte (land_of b first (narrow constants.fetch)) (arms_at b.code i))
  image_byte i insn flows.Returns h = (h, tt)
  image_byte i insn flows.Throws h = (h, tt)

  segment_byte : (i : ℕ) → AllItems (segment b first (narrow constants.fetch) i)
  segment_byte i =
      each_joined ItemByte (lead_part (lead_probe b first i) i) _ (lead_byte (lead_probe b first i) i)
      (each_joined ItemByte (early_part (early_probe b first i) i) _ (early_byte (early_probe b first i) i)
      (image_byte i (insn_at b.code i) (flow_of (insn_at b.code i)) (at_byte b.code small i)))

  pieces_byte : (n : ℕ) → AllItems (pieces (segment b first (narrow constants.fetch)) n)
  pieces_byte zero = tt
  pieces_byte (suc n) = each_joined ItemByte (pieces (segment b first (narrow constants.fetch)) n) (segment b first (narrow constants.fetch) n) (pieces_byte n) (segment_byte n)

  prelude_byte : (fetch : Fetch) → AllItems (prelude fetch)
  prelude_byte fetches.Member = (tt, (tt, tt))
  prelude_byte fetches.Constant = (tt, (tt, (tt, tt)))

  items_byte : AllItems (twin_items b first (narrow constants.fetch))
  unfolding twin_items
  items_byte =
      each_joined ItemByte (prelude constants.fetch) (pieces (segment b first (narrow constants.fetch)) (length b.code)) (prelude_byte constants.fetch)
      (pieces_byte (length b.code))

  mapped_byte : (xs : List Item) → AllItems xs → AllByRecursion HasByte (map (insn_of (unplaced (integer_in constants.integers)) b.arg_slots) xs)
  mapped_byte [] all = tt
  mapped_byte (x ∷ xs) all = (all.0, mapped_byte xs all.1)

  ready_byte : (fetch : Fetch) (place : ℕ) (code : List Insn) → AllByRecursion HasByte code → AllByRecursion HasByte (ready_code fetch place code)
  ready_byte fetches.Member place code all = all
  ready_byte fetches.Constant place [] all = tt
  ready_byte fetches.Constant place (load ∷ code) all = (tt, all.1)

  pub text_are : IsWellMadeOfAnySize b → AreBytes (chosen_text (probed_code constants b first))
  unfolding chosen_text
  text_are made =
      let code = probed_code constants b first in
      let emitted = emitted_code b first constants.fetch (integer_in constants.integers) in
      code_are (slice_index (chosen_starts code)) (chosen code) 0 code (chosen_starts code)
      (recursion_from_All IsWellFormed code
      (ready_formed constants.fetch constants.giver emitted (all_formed b first constants.fetch (integer_in constants.integers) made.code)))
      (ready_byte constants.fetch constants.giver emitted (mapped_byte (twin_items b first (narrow constants.fetch)) items_byte))

-- ---- the code that was read

abbrev Known : Insn → Insn → Type 0
Known insn known = items.Insn insn ≡ items.Insn known

by_known : (insn known : Insn) → Known insn known → HasByte known → HasByte insn
by_known insn known is small = subst HasByte (sym (insn_is insn known is)) small

wide_byte : (form : Form) (op : ℕ) (rest : List ℕ) (insn : Insn) → wide_operands form op rest (items.Insn insn) → HasByte insn
unfolding wide_operands
wide_byte forms.Local op rest insn t = by_known insn _ t.behind.1 tt
wide_byte forms.Inc op rest insn t = by_known insn _ t.behind.behind.1 tt
wide_byte forms.Subroutine op rest insn t = absurd (not_subroutine insn t.1.1)
wide_byte form op rest insn t = absurd t

table_byte : (at : ℕ) (rest : List ℕ) (insn : Insn) → table_operands at rest (items.Insn insn) → HasByte insn
unfolding table_operands
table_byte at rest insn t = by_known insn _ t.behind.behind.behind.behind.1.behind.1 tt

lookup_byte : (at : ℕ) (rest : List ℕ) (insn : Insn) → lookup_operands at rest (items.Insn insn) → HasByte insn
unfolding lookup_operands
lookup_byte at rest insn t = by_known insn _ t.behind.behind.behind.1.behind.1.1 tt

behind_are : (bytes front rest : List ℕ) → bytes ≡ front ++ rest → AreBytes bytes → AreBytes rest
behind_are bytes front rest parts are = (both_bytes front rest (subst AreBytes parts are)).1

one_byte : (bytes front rest : List ℕ) (x : ℕ) → bytes ≡ front ++ rest → front ≡ x ∷ [] → AreBytes bytes → x < 256
one_byte bytes front rest x parts field_is are = (subst AreBytes field_is (both_bytes front rest (subst AreBytes parts are)).0).0

operands_byte : (at : ℕ) (form : Form) (op : ℕ) (rest : List ℕ) (insn : Insn) → AreBytes rest → operands at form op rest (items.Insn insn) → HasByte insn
unfolding operands
operands_byte at forms.Simple op rest insn are t = by_known insn _ t.1 tt
operands_byte at forms.PushByte op rest insn are t = by_known insn _ t.behind.1 tt
operands_byte at forms.PushShort op rest insn are t = by_known insn _ t.behind.1 tt
operands_byte at forms.ConstantByte op rest insn are t = by_known insn _ t.behind.1 tt
operands_byte at forms.ConstantShort op rest insn are t = by_known insn _ t.behind.1 tt
operands_byte at forms.Constant2 op rest insn are t = by_known insn _ t.behind.1 tt
operands_byte at forms.Local op rest insn are t = by_known insn _ t.behind.1 tt
operands_byte at forms.ShortLoad op rest insn are t = by_known insn _ t.1 tt
operands_byte at forms.ShortStore op rest insn are t = by_known insn _ t.1 tt
operands_byte at forms.Inc op rest insn are t = by_known insn _ t.behind.behind.1 tt
operands_byte at forms.Jump op rest insn are t = by_known insn _ t.behind.1 tt
operands_byte at forms.WideJump op rest insn are t = by_known insn _ t.behind.1 tt
operands_byte at forms.Subroutine op rest insn are t = absurd (not_subroutine insn t.1)
operands_byte at forms.Table op rest insn are t = table_byte at rest insn t
operands_byte at forms.Lookup op rest insn are t = lookup_byte at rest insn t
operands_byte at forms.Member op rest insn are t = by_known insn _ t.behind.1 tt
operands_byte at forms.Interface op rest insn are t =
    by_known insn (insns.Interface t.value t.behind.value) t.behind.behind.behind.1
    (one_byte t.rest t.behind.front t.behind.rest t.behind.value t.behind.parts t.behind.field (behind_are rest t.front t.rest t.parts are))
operands_byte at forms.Dynamic op rest insn are t = by_known insn _ t.behind.behind.1 tt
operands_byte at forms.OfClass op rest insn are t = by_known insn _ t.behind.1 tt
operands_byte at forms.NewArray op rest insn are t = by_known insn _ t.behind.1.1 tt
operands_byte at forms.Multi op rest insn are t =
    by_known insn (insns.Multi t.value t.behind.value) t.behind.behind.1.1
    (one_byte t.rest t.behind.front t.behind.rest t.behind.value t.behind.parts t.behind.field (behind_are rest t.front t.rest t.parts are))
operands_byte at forms.Wide op rest insn are t = wide_byte (form_of t.value) t.value t.rest insn t.behind
operands_byte at forms.Unknown op rest insn are t = absurd t

item_byte : (at : ℕ) (text : List ℕ) (insn : Insn) → AreBytes text → IsItem at text (items.Insn insn) → HasByte insn
unfolding IsItem
item_byte at text insn are t = operands_byte at (form_of t.value) t.value t.rest insn (behind_are text t.front t.rest t.parts are) t.behind

from_byte : (at : ℕ) (bytes : List ℕ) (code : List Insn) (starts : List ℕ) → AreBytes bytes → SpellsFrom at bytes code starts → AllByRecursion HasByte code
from_byte at bytes [] starts are t = tt
from_byte at bytes (insn ∷ code) starts are t =
    let both = both_bytes t.0 t.1 (subst AreBytes t.3 are) in
    (item_byte at t.0 insn both.0 t.5, from_byte (at + length t.0) t.1 code t.2 both.1 t.6)

all_placed : (f : ℕ → ℕ) (code : List Insn) → AllByRecursion HasByte code → AllByRecursion HasByte (map (with_places f) code)
all_placed f [] all = tt
all_placed f (insn ∷ code) all = (places_byte f insn all.0, all_placed f code all.1)

pub spelled_byte : (bytes : List ℕ) (code : List Insn) (starts : List ℕ) → AreBytes bytes → Spells bytes code starts → AllByRecursion HasByte code
spelled_byte bytes code starts are s =
    subst (AllByRecursion HasByte) (sym s.places) (all_placed _ s.spelled (from_byte 0 bytes s.spelled starts are s.text))
