-- What is written of an instruction is its spelling, of its size.
use Rattle.std.proofs.Common.{◌≡◌, ◌⊎◌, inl, inr, ℕ, ◌%◌, ◌<◌, ◌≤◌, Bool, true, false, ◌&&◌, List, [], ◌∷◌, ◌++◌, All, nat_le, refl, sym, ap, subst, arith, w8, w16, w32, ℤ, pos, negsuc, map}
use Rattle.std.proofs.lemmas.List.Elements.{All-head, All-tail}
use Rattle.std.specs.Prelude.{FitsSigned, ◌≤ℤ◌}
use Rattle.std.specs.Int.{cast_signed, cast_unsigned}
use Rattle.std.proofs.lemmas.Bool.{cases_lt, lt-ltb, le-ltb}
use Rattle.std.proofs.lemmas.Bool.Decides.{nat_tests}
use Rattle.std.proofs.lemmas.List.{get_or-map, length-map}
use Rattle.jc_bytes.specs.BigNumbers.{short}
use Rattle.jc_methods.specs.Opcode as opcode
use Rattle.jc_methods.specs.declared.form.Form.{Form}
use Rattle.jc_methods.specs.declared.form.Form.TheVariants as forms
use Rattle.jc_methods.specs.InsnForm.{form_of}
use Rattle.jc_methods.proofs.InsnFormLaws.{named_forms}
use Rattle.jc_methods.specs.declared.insn.Insn.{Insn}
use Rattle.jc_methods.specs.declared.insn.Insn.TheVariants as insns
use Rattle.jc_methods.specs.declared.insn.Arm.{Arm}
use Rattle.jc_methods.specs.Insn.{IsWellFormed}
use Rattle.jc_methods.specs.Flow.{targets_of}
use Rattle.jc_insn.specs.declared.item.CodeItem.{CodeItem}
use Rattle.jc_insn.specs.declared.item.CodeItem.TheVariants as items
use Rattle.jc_insn.specs.Fields.{nothing, byte, piece, Then, only_if}
use Rattle.jc_insn.specs.Items.{number, target_of, operands, IsItem}
use Rattle.jc_insn.specs.Writing.{signed_byte, difference, push_text, constant_text, jump_text, insn_text, IsNear, IsNearJump, IsInRange}
use Rattle.jc_insn.proofs.ReadBackLaws.{big_short, signed_byte_back, signed_short_back, short_target}
use Rattle.jc_insn.proofs.OperandsSpelledLaws.{item_of, byte_then, number_then, one_byte, one_number, one_piece, short_fits, local_is, inc_is}
use Rattle.jc_insn.proofs.SwitchesSpelledLaws.{ArmFits, table_is, lookup_is}

short_item : (at op : ℕ) (form : Form) (f : ℕ → CodeItem) (x : ℕ) (item : CodeItem) → form_of op ≡ form → x < 65536 → item ≡ f x
    → ((text : List ℕ) → Then (number 2) (λ v. nothing (f v)) text item → operands at form op text item) → IsItem at (op ∷ short x) item
short_item at op form f x item is fits same o = item_of at op form (short x) item is (o (short x) (one_number 2 f x (short x) item (big_short x fits) same))

-- the fields of an instruction whose places are offsets have room
pub record Fits (at : ℕ) (insn : Insn) : Type 0 where
  pub at_fits : at < 4294967296
  pub well_formed : IsWellFormed insn
  pub in_range : IsInRange insn
  pub places : All (λ to. to < 4294967296) (targets_of insn)

push_is : (at op : ℕ) (value : ℤ) → ((form_of op ≡ forms.PushByte) × (negsuc 127 ≤ℤ value) × (value ≤ℤ pos 127)) ⊎ (form_of op ≡ forms.PushShort)
    → FitsSigned w16 value → IsItem at (push_text (form_of op) op value) (items.Insn (insns.Push op value))
unfolding operands
push_is at op value (inl (is, low, high)) fits =
    subst (λ (f : Form). IsItem at (push_text f op value) (items.Insn (insns.Push op value))) (sym is)
    (item_of at op forms.PushByte (signed_byte value ∷ []) (items.Insn (insns.Push op value)) is
    (one_byte (λ v. items.Insn (insns.Push op (cast_signed w8 v))) (signed_byte value) (items.Insn (insns.Push op value))
    (ap (λ (z : ℤ). items.Insn (insns.Push op z)) (sym (signed_byte_back value low high)))))
push_is at op value (inr is) fits =
    subst (λ (f : Form). IsItem at (push_text f op value) (items.Insn (insns.Push op value))) (sym is)
    (short_item at op forms.PushShort (λ v. items.Insn (insns.Push op (cast_signed w16 v))) (cast_unsigned w16 value)
    (items.Insn (insns.Push op value)) is (short_fits value fits) (ap (λ (z : ℤ). items.Insn (insns.Push op z)) (sym (signed_short_back value fits)))
    (λ text o. o))

constant_is : (at place : ℕ) → place < 65536 → IsItem at (constant_text place) (items.Insn (insns.Constant place))
unfolding operands
constant_is at place fits = by (cases_lt place 256)
  where
    by : (place < 256) ⊎ (256 ≤ place) → IsItem at (constant_text place) (items.Insn (insns.Constant place))
    by (inl few) = rw (lt-ltb place 256 few) (item_of at opcode.ldc forms.ConstantByte (place ∷ []) (items.Insn (insns.Constant place))
        (let rows = named_forms in rows.0) (one_byte (λ v. items.Insn (insns.Constant v)) place (items.Insn (insns.Constant place)) refl))
    by (inr more) = rw (le-ltb place 256 more) (short_item at opcode.ldc_w forms.ConstantShort (λ v. items.Insn (insns.Constant v)) place
        (items.Insn (insns.Constant place)) (let rows = named_forms in rows.1) fits refl (λ text o. o))

arms_fit : (arms : List Arm) → All (λ arm. FitsSigned w32 arm.key) arms → All (λ to. to < 4294967296) (map (λ (a : Arm). a.to) arms) → All ArmFits arms
arms_fit arms keys places k d below = record {
  key = keys k d below;
  to = subst (λ (to : ℕ). to < 4294967296) (get_or-map (λ (a : Arm). a.to) arms k d d.to below)
      (places k d.to (omega (arith, length-map arms (λ (a : Arm). a.to), below)));
}

elem_test : (elem : ℕ) → 4 ≤ elem → elem ≤ 11 → (nat_le 4 elem && nat_le elem 11) ≡ true
elem_test elem low high = grind (arith, nat_tests)

dims_test : (dims : ℕ) → 1 ≤ dims → nat_le 1 dims ≡ true
dims_test dims some = grind (arith, nat_tests)

-- every instruction but a jump
pub text_is : (at : ℕ) (wide : Bool) (insn : Insn) → Fits at insn →
    ((op to : ℕ) → insn ≡ insns.Jump op to → IsItem at (jump_text at wide op to) (items.Insn insn)) → IsItem at (insn_text at wide insn) (items.Insn insn)
unfolding insn_text operands
text_is at wide (insns.Simple op) fits jump = item_of at op forms.Simple [] (items.Insn (insns.Simple op)) fits.well_formed (refl, refl)
text_is at wide (insns.Push op value) fits jump = push_is at op value fits.well_formed fits.in_range
text_is at wide (insns.Local op slot) fits jump = local_is at op slot fits.well_formed fits.in_range
text_is at wide (insns.Inc slot by) fits jump = inc_is at slot by fits.in_range.0 fits.in_range.1
text_is at wide (insns.Constant place) fits jump = constant_is at place fits.in_range
text_is at wide (insns.Constant2 place) fits jump = short_item at opcode.ldc2_w forms.Constant2 (λ v. items.Insn (insns.Constant2 v)) place
    (items.Insn (insns.Constant2 place)) (let rows = named_forms in rows.2) fits.in_range refl (λ text o. o)
text_is at wide (insns.Member op place) fits jump = short_item at op forms.Member (λ v. items.Insn (insns.Member op v)) place
    (items.Insn (insns.Member op place)) fits.well_formed fits.in_range refl (λ text o. o)
text_is at wide (insns.Interface place count) fits jump =
    let item = items.Insn (insns.Interface place count) in
    item_of at opcode.invokeinterface forms.Interface (short place ++ (count ∷ 0 ∷ [])) item (let rows = named_forms in rows.7)
    (number_then 2 (λ p. Then byte (λ c. Then byte (λ any. nothing (items.Insn (insns.Interface p c))))) place (short place) (count ∷ 0 ∷ []) item
    (big_short place fits.in_range)
    (byte_then (λ c. Then byte (λ any. nothing (items.Insn (insns.Interface place c)))) count (0 ∷ []) item (one_byte (λ any. item) 0 item refl)))
text_is at wide (insns.Dynamic place) fits jump =
    let item = items.Insn (insns.Dynamic place) in
    item_of at opcode.invokedynamic forms.Dynamic (short place ++ (0 ∷ 0 ∷ [])) item (let rows = named_forms in rows.8)
    (number_then 2 (λ p. Then (piece 2) (λ any. nothing (items.Insn (insns.Dynamic p)))) place (short place) (0 ∷ 0 ∷ []) item (big_short place fits.in_range)
    (one_piece 2 (λ any. item) (0 ∷ 0 ∷ []) item refl refl))
text_is at wide (insns.OfClass op place) fits jump = short_item at op forms.OfClass (λ v. items.Insn (insns.OfClass op v)) place
    (items.Insn (insns.OfClass op place)) fits.well_formed fits.in_range refl (λ text o. o)
text_is at wide (insns.NewArray elem) fits jump =
    let item = items.Insn (insns.NewArray elem) in
    item_of at opcode.newarray forms.NewArray (elem ∷ []) item (let rows = named_forms in rows.9)
    (byte_then (λ e. only_if (nat_le 4 e && nat_le e 11) (nothing (items.Insn (insns.NewArray e)))) elem [] item
    (elem_test elem fits.well_formed.0 fits.well_formed.1, (refl, refl)))
text_is at wide (insns.Multi place dims) fits jump =
    let item = items.Insn (insns.Multi place dims) in
    item_of at opcode.multianewarray forms.Multi (short place ++ (dims ∷ [])) item (let rows = named_forms in rows.11)
    (number_then 2 (λ p. Then byte (λ d. only_if (nat_le 1 d) (nothing (items.Insn (insns.Multi p d))))) place (short place) (dims ∷ []) item
    (big_short place fits.in_range)
    (byte_then (λ d. only_if (nat_le 1 d) (nothing (items.Insn (insns.Multi place d)))) dims [] item (dims_test dims fits.well_formed, (refl, refl))))
text_is at wide (insns.Jump op to) fits jump = jump op to refl
text_is at wide (insns.Table low default arms) fits jump =
    table_is at default low arms fits.at_fits (All-head (λ to. to < 4294967296) default arms fits.places) fits.in_range fits.well_formed.0
    fits.well_formed.1 (All-tail (λ to. to < 4294967296) default arms fits.places)
text_is at wide (insns.Lookup default arms) fits jump =
    let tos = map (λ (a : Arm). a.to) arms in
    lookup_is at default arms fits.at_fits (All-head (λ to. to < 4294967296) default tos fits.places) fits.well_formed.0 fits.well_formed.1
    (arms_fit arms fits.in_range (All-tail (λ to. to < 4294967296) default tos fits.places))

-- a jump in two bytes
pub near_text_is : (at : ℕ) (insn : Insn) → Fits at insn → IsNearJump at insn → IsItem at (insn_text at false insn) (items.Insn insn)
unfolding operands
near_text_is at insn fits near = text_is at false insn fits
    (λ op to is. subst (λ (i : Insn). IsItem at (jump_text at false op to) (items.Insn i)) (sym is)
    (jump op to (subst (Fits at) is fits) (subst (IsNearJump at) is near)))
  where
    jump : (op to : ℕ) → Fits at (insns.Jump op to) → IsNear at to → IsItem at (jump_text at false op to) (items.Insn (insns.Jump op to))
    jump op to f near =
        let x = difference at to % 65536 in
        let to_fits = All-head (λ t. t < 4294967296) to [] f.places in
        short_item at op forms.Jump (λ v. items.Insn (insns.Jump op (target_of at (cast_signed w16 v)))) x (items.Insn (insns.Jump op to)) f.well_formed
        (omega arith) (ap (λ (t : ℕ). items.Insn (insns.Jump op t)) (sym (short_target at to f.at_fits to_fits near))) (λ text o. o)
