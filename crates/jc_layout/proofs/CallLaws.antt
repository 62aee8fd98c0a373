-- The bytes of a layout whose first instruction calls a method, once the method has its place in the pool.
use Rattle.std.proofs.Common.{◌≡◌, ℕ, ◌<◌, Bool, List, [], ◌∷◌, ◌++◌, map, refl, sym, ap, ◌∙◌, subst, arith}
use Rattle.std.specs.Prelude.{slice_index}
use Rattle.jc_bytes.specs.BigNumbers.{short}
use Rattle.jc_methods.specs.Opcode as opcode
use Rattle.jc_methods.specs.declared.form.Form.TheVariants as forms
use Rattle.jc_methods.specs.InsnForm.{form_of}
use Rattle.jc_methods.specs.Insn.{with_places}
use Rattle.jc_methods.specs.Starts.{insn_number}
use Rattle.jc_methods.specs.WellMade.{IsWellMadeOfAnySize}
use Rattle.jc_methods.specs.Widened.{WideSet}
use Rattle.jc_methods.specs.declared.insn.Insn.{Insn}
use Rattle.jc_methods.specs.declared.insn.Insn.TheVariants as insns
use Rattle.jc_methods.specs.declared.kind.State.{State}
use Rattle.jc_methods.specs.declared.probe_members.Fetch.TheVariants as fetches
use Rattle.jc_methods.specs.declared.body.Body.{Body}
use Rattle.jc_methods.specs.declared.body.Use.{Use}
use Rattle.jc_insn.specs.declared.item.CodeItem.TheVariants as items
use Rattle.jc_insn.specs.Items.{operands, IsItem}
use Rattle.jc_insn.specs.Sizes.{StartAt}
use Rattle.jc_insn.specs.Spells.{SpellsFrom, Spells}
use Rattle.jc_insn.specs.Writing.{insn_text, code_text}
use Rattle.jc_insn.proofs.OperandsSpelledLaws.{item_of, one_number}
use Rattle.jc_insn.proofs.ReadBackLaws.{big_short}
use Rattle.jc_emit.specs.Sizes.{narrow}
use Rattle.jc_emit.specs.Emission.{Emitting, emission}
use Rattle.jc_emit.specs.Items.{insn_of, twin_items}
use Rattle.jc_emit.specs.Marks.{TwinPlaces, unplaced, invokestatic}
use Rattle.jc_layout.specs.Layout.{laid_starts, chosen, chosen_starts, chosen_text}
use Rattle.jc_layout.specs.LaidBody.{with_prelude, with_operand, laid_body, laid_form, SpellsLaid}
use Rattle.jc_layout.proofs.ChoiceLaws.{chosen_stand}
use Rattle.jc_layout.proofs.LaidCodeLaws.{begins_so, laid_is}
use Rattle.jc_layout.proofs.OperandLaws.{operand_put, other_place}

-- ---- invokestatic

abbrev call_text : ℕ → List ℕ
call_text place = opcode.invokestatic ∷ short place

pub call_form : form_of opcode.invokestatic ≡ forms.Member
unfolding form_of
call_form = refl

call_item : (at place : ℕ) → place < 65536 → IsItem at (call_text place) (items.Insn (invokestatic place))
unfolding operands
call_item at place lt =
    item_of at opcode.invokestatic forms.Member (short place) (items.Insn (invokestatic place)) call_form
    (one_number 2 (λ p. items.Insn (insns.Member opcode.invokestatic p)) place (short place) (items.Insn (invokestatic place)) (big_short place lt) refl)

call_back : (f : ℕ → ℕ) (place : ℕ) (x : Insn) → invokestatic place ≡ with_places f x → x ≡ invokestatic place
call_back f place (insns.Member op p) e = sym e
call_back f place x e = cc

-- ---- another place in the first instruction

first_is : (f : ℕ → ℕ) (y x : Insn) (code xs : List Insn) → y ∷ code ≡ with_places f x ∷ map (with_places f) xs → y ≡ with_places f x
first_is f y x code xs e = cc

rest_is : (f : ℕ → ℕ) (y x : Insn) (code xs : List Insn) → y ∷ code ≡ with_places f x ∷ map (with_places f) xs → code ≡ map (with_places f) xs
rest_is f y x code xs e = cc

no_none : (y : Insn) (code : List Insn) → y ∷ code ≡ [] → ⊥
no_none y code e = cc

called_text : (call : ℕ) (rest starts : List ℕ) (code : List Insn) → call < 65536 → Spells (call_text 0 ++ rest) (invokestatic 0 ∷ code) starts
    → Spells (call_text call ++ rest) (invokestatic call ∷ code) starts
called_text call rest starts code lt s = by s.spelled s.text s.places
  where
    by : (spelled : List Insn) → SpellsFrom 0 (call_text 0 ++ rest) spelled starts → invokestatic 0 ∷ code ≡ map (with_places (insn_number starts)) spelled
        → Spells (call_text call ++ rest) (invokestatic call ∷ code) starts
    by [] s e = absurd (no_none (invokestatic 0) code e)
    by (x ∷ xs) s e =
        let f = insn_number starts in
        let x_is = call_back f 0 x (first_is f (invokestatic 0) x code xs e) in record {
          spelled = invokestatic call ∷ xs;
          text =
              other_place 0 opcode.invokestatic invokestatic 0 call rest starts xs (call_item 0) (omega arith) lt
              (subst (λ y. SpellsFrom 0 (call_text 0 ++ rest) (y ∷ xs) starts) x_is s);
          places = ap (λ l. invokestatic call ∷ l) (rest_is f (invokestatic 0) x code xs e);
        }

-- ---- the bytes

text_begins : (places : ℕ → ℕ) (wide : WideSet) (code : List Insn) (starts : List ℕ) → StartAt wide (invokestatic 0 ∷ code) starts
    → (rest : List ℕ) × (code_text places wide 0 (invokestatic 0 ∷ code) starts ≡ call_text 0 ++ rest)
unfolding insn_text
text_begins places wide code starts (later, is, more) =
    (code_text places wide 1 code later, ap (code_text places wide 0 (invokestatic 0 ∷ code)) is)

chosen_begins : (code : List Insn) → (rest : List ℕ) × (chosen_text (invokestatic 0 ∷ code) ≡ call_text 0 ++ rest)
unfolding chosen_text
chosen_begins code =
    let whole = invokestatic 0 ∷ code in
    text_begins (slice_index (chosen_starts whole)) (chosen whole) code (chosen_starts whole) (chosen_stand whole)

with_called : (call : ℕ) (bytes starts : List ℕ) (whole code : List Insn) → call < 65536
    → bytes ≡ chosen_text (invokestatic 0 ∷ whole) → Spells bytes (invokestatic 0 ∷ code) starts
    → Spells (with_operand 0 call bytes) (invokestatic call ∷ code) starts
with_called call bytes starts whole code lt are s =
    let begins = chosen_begins whole in
    let bytes_are = are ∙ begins.1 in
    subst (λ l. Spells l (invokestatic call ∷ code) starts)
    (sym (ap (with_operand 0 call) bytes_are ∙ operand_put opcode.invokestatic 0 call [] begins.0))
    (called_text call begins.0 starts code lt (subst (λ l. Spells l (invokestatic 0 ∷ code) starts) bytes_are s))

module _ (b : Body) (first : ℕ) (states : List State) (given : Emitting) (member : given.fetch ≡ fetches.Member) where
  pub spells_by_method : (wide : List Bool) (p : TwinPlaces) (uses : List Use) (bytes starts : List ℕ) → IsWellMadeOfAnySize b → p.giver < 65536
      → SpellsLaid b (emission b first states given) wide fetches.Member p uses bytes starts
  unfolding laid_body emission
  spells_by_method wide p uses bytes starts well lt are s =
      let named = unplaced given.integer in
      let begins = begins_so b first (narrow given.fetch) member named in
      let laid = laid_is b first given.fetch named wide well.code ∙ begins_so b first (laid_form b first given.fetch wide) member named in
      let ends = laid_starts wide (map (insn_of named b.arg_slots) (twin_items b first (narrow given.fetch))) starts in
      subst (λ code. Spells (with_operand 0 p.giver bytes) (with_prelude fetches.Member p code) ends) (sym laid)
      (with_called p.giver bytes ends _ _ lt (are ∙ ap chosen_text begins) (subst (λ code. Spells bytes code ends) laid s))
