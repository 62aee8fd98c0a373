-- The bytes of a layout whose first two instructions load a constant and cast it, once the class has its place in the pool.
use Rattle.std.proofs.Common.{◌≡◌, ℕ, ◌+◌, ◌<◌, Bool, true, false, List, [], ◌∷◌, ◌++◌, length, map, nat_lt, if◌then◌else◌, refl, sym, ap, ◌∙◌, subst, arith}
use Rattle.std.specs.Prelude.{slice_index}
use Rattle.jc_bytes.specs.BigNumbers.{short}
use Rattle.jc_methods.specs.Opcode as opcode
use Rattle.jc_methods.specs.declared.form.Form.TheVariants as forms
use Rattle.jc_methods.specs.InsnForm.{form_of}
use Rattle.jc_methods.specs.Insn.{with_places}
use Rattle.jc_methods.specs.Starts.{insn_number}
use Rattle.jc_methods.specs.Widened.{WideSet, widened}
use Rattle.jc_methods.specs.declared.insn.Insn.{Insn}
use Rattle.jc_methods.specs.declared.insn.Insn.TheVariants as insns
use Rattle.jc_methods.specs.declared.kind.State.{State}
use Rattle.jc_methods.specs.declared.probe_members.Fetch.TheVariants as fetches
use Rattle.jc_methods.specs.declared.body.Body.{Body}
use Rattle.jc_methods.specs.declared.body.Use.{Use}
use Rattle.jc_methods.specs.declared.emitted.Emitted.{Emitted}
use Rattle.jc_insn.specs.declared.item.CodeItem.TheVariants as items
use Rattle.jc_insn.specs.Items.{operands, IsItem}
use Rattle.jc_insn.specs.Sizes.{StartAt}
use Rattle.jc_insn.specs.Spells.{SpellsFrom, Spells}
use Rattle.jc_insn.specs.Writing.{constant_text, insn_text, code_text}
use Rattle.jc_insn.proofs.OperandsSpelledLaws.{item_of, one_number}
use Rattle.jc_insn.proofs.ReadBackLaws.{big_short, short_size}
use Rattle.jc_insn.proofs.ShortestSpellingLaws.{text_is}
use Rattle.jc_emit.specs.Sizes.{narrow}
use Rattle.jc_emit.specs.Emission.{Emitting, emission}
use Rattle.jc_emit.specs.Marks.{TwinPlaces, unplaced}
use Rattle.jc_layout.specs.Layout.{chosen, chosen_starts, chosen_text}
use Rattle.jc_layout.specs.LaidBody.{constant_size, readied, with_constant, with_operand, laid_body, SpellsLaid}
use Rattle.jc_layout.proofs.ChoiceLaws.{chosen_stand}
use Rattle.jc_layout.proofs.LaidCodeLaws.{begins_by_constant, rest_of}
use Rattle.jc_layout.proofs.OperandLaws.{first_again, first_read, operand_put, other_place}

-- ---- ldc and checkcast

abbrev load : ℕ → Insn
load place = insns.Constant place

abbrev cast : ℕ → Insn
cast place = insns.OfClass opcode.checkcast place

abbrev cast_text : ℕ → List ℕ
cast_text place = opcode.checkcast ∷ short place

cast_form : form_of opcode.checkcast ≡ forms.OfClass
unfolding form_of
cast_form = refl

cast_item : (at place : ℕ) → place < 65536 → IsItem at (cast_text place) (items.Insn (cast place))
unfolding operands
cast_item at place lt =
    item_of at opcode.checkcast forms.OfClass (short place) (items.Insn (cast place)) cast_form
    (one_number 2 (λ p. items.Insn (cast p)) place (short place) (items.Insn (cast place)) (big_short place lt) refl)

load_item : (place : ℕ) → place < 65536 → IsItem 0 (constant_text place) (items.Insn (load place))
unfolding insn_text
load_item place lt =
    text_is 0 false (load place) (record { at_fits = omega arith; well_formed = tt; in_range = lt; places = λ k d below. absurd (omega (arith, below)) })
    (λ op to is. absurd cc)

load_back : (f : ℕ → ℕ) (place : ℕ) (x : Insn) → load place ≡ with_places f x → x ≡ load place
load_back f place (insns.Constant p) e = sym e
load_back f place x e = cc

cast_back : (f : ℕ → ℕ) (place : ℕ) (x : Insn) → cast place ≡ with_places f x → x ≡ cast place
cast_back f place (insns.OfClass op p) e = sym e
cast_back f place x e = cc

sized_by : (place : ℕ) (small : Bool)
    → (if small then 2 else 3) ≡ length (if small then opcode.ldc ∷ place ∷ [] else opcode.ldc_w ∷ short place)
sized_by place true = refl
sized_by place false = let size = short_size place in omega (arith, size)

load_size : (place : ℕ) → constant_size place ≡ length (constant_text place)
load_size place = sized_by place (nat_lt place 256)

-- ---- another place in the second instruction

first_is : (f : ℕ → ℕ) (y x : Insn) (code xs : List Insn) → y ∷ code ≡ with_places f x ∷ map (with_places f) xs → y ≡ with_places f x
first_is f y x code xs e = cc

rest_is : (f : ℕ → ℕ) (y x : Insn) (code xs : List Insn) → y ∷ code ≡ with_places f x ∷ map (with_places f) xs → code ≡ map (with_places f) xs
rest_is f y x code xs e = cc

no_none : (y : Insn) (code : List Insn) → y ∷ code ≡ [] → ⊥
no_none y code e = cc

module _ (place class : ℕ) (place_lt : place < 65536) (class_lt : class < 65536) where
  abbrev front : List ℕ
  front = constant_text place

  cast_there : (rest starts : List ℕ) (xs : List Insn) → SpellsFrom 0 (front ++ (cast_text 0 ++ rest)) (load place ∷ cast 0 ∷ xs) starts
      → SpellsFrom 0 (front ++ (cast_text class ++ rest)) (load place ∷ cast class ∷ xs) starts
  cast_there rest starts xs s =
      let read = first_read 0 front (cast_text 0 ++ rest) starts (load place) (cast 0 ∷ xs) (load_item place place_lt) s in
      first_again 0 front front (cast_text class ++ rest) starts (load place) (cast class ∷ xs) refl (load_item place place_lt)
      (record {
        later = read.later;
        is = read.is;
        more =
            other_place (0 + length front) opcode.checkcast cast 0 class rest read.later xs (cast_item (0 + length front)) (omega arith) class_lt read.more;
      })

  cast_text_there : (rest starts : List ℕ) (code : List Insn) → Spells (front ++ (cast_text 0 ++ rest)) (load place ∷ cast 0 ∷ code) starts
      → Spells (front ++ (cast_text class ++ rest)) (load place ∷ cast class ∷ code) starts
  cast_text_there rest starts code s = by s.spelled s.text s.places
    where
      by : (spelled : List Insn) → SpellsFrom 0 (front ++ (cast_text 0 ++ rest)) spelled starts
          → load place ∷ cast 0 ∷ code ≡ map (with_places (insn_number starts)) spelled
          → Spells (front ++ (cast_text class ++ rest)) (load place ∷ cast class ∷ code) starts
      by [] s e = absurd (no_none (load place) (cast 0 ∷ code) e)
      by (x ∷ []) s e = absurd (no_none (cast 0) code (rest_is (insn_number starts) (load place) x (cast 0 ∷ code) [] e))
      by (x ∷ y ∷ xs) s e =
          let f = insn_number starts in
          let x_is = load_back f place x (first_is f (load place) x (cast 0 ∷ code) (y ∷ xs) e) in
          let behind = rest_is f (load place) x (cast 0 ∷ code) (y ∷ xs) e in
          let y_is = cast_back f 0 y (first_is f (cast 0) y code xs behind) in record {
            spelled = load place ∷ cast class ∷ xs;
            text =
                cast_there rest starts xs
                (subst (λ z. SpellsFrom 0 (front ++ (cast_text 0 ++ rest)) (load place ∷ z ∷ xs) starts) y_is
                (subst (λ z. SpellsFrom 0 (front ++ (cast_text 0 ++ rest)) (z ∷ y ∷ xs) starts) x_is s));
            places = ap (λ l. load place ∷ cast class ∷ l) (rest_is f (cast 0) y code xs behind);
          }

  -- ---- the bytes

  text_begins : (places : ℕ → ℕ) (wide : WideSet) (code : List Insn) (starts : List ℕ) → StartAt wide (load place ∷ cast 0 ∷ code) starts
      → (rest : List ℕ) × (code_text places wide 0 (load place ∷ cast 0 ∷ code) starts ≡ front ++ (cast_text 0 ++ rest))
  unfolding insn_text
  text_begins places wide code starts (later, is, (last, next, more)) = (
    code_text places wide 2 code last,
    ap (code_text places wide 0 (load place ∷ cast 0 ∷ code)) is
        ∙ ap (λ (l : List ℕ). front ++ code_text places wide 1 (cast 0 ∷ code) l) next,
  )

  chosen_begins : (code : List Insn) → (rest : List ℕ) × (chosen_text (load place ∷ cast 0 ∷ code) ≡ front ++ (cast_text 0 ++ rest))
  unfolding chosen_text
  chosen_begins code =
      let whole = load place ∷ cast 0 ∷ code in
      text_begins (slice_index (chosen_starts whole)) (chosen whole) code (chosen_starts whole) (chosen_stand whole)

  class_put : (rest : List ℕ) → with_operand (constant_size place) class (front ++ (cast_text 0 ++ rest)) ≡ front ++ (cast_text class ++ rest)
  class_put rest =
      ap (λ (n : ℕ). with_operand n class (front ++ (cast_text 0 ++ rest))) (load_size place)
      ∙ operand_put opcode.checkcast 0 class front rest

  with_cast : (bytes starts : List ℕ) (whole code : List Insn) → bytes ≡ chosen_text (load place ∷ cast 0 ∷ whole)
      → Spells bytes (load place ∷ cast 0 ∷ code) starts
      → Spells (with_operand (constant_size place) class bytes) (load place ∷ cast class ∷ code) starts
  with_cast bytes starts whole code are s =
      let begins = chosen_begins whole in
      let bytes_are = are ∙ begins.1 in
      subst (λ l. Spells l (load place ∷ cast class ∷ code) starts) (sym (ap (with_operand (constant_size place) class) bytes_are ∙ class_put begins.0))
      (cast_text_there begins.0 starts code (subst (λ l. Spells l (load place ∷ cast 0 ∷ code) starts) bytes_are s))

-- ---- the body

abbrev loaded : Emitted → (giver : ℕ) → List Insn → Emitted
loaded e giver code = record e { code = with_constant giver code }

module _ (b : Body) (e : Emitted) (wide : List Bool) (p : TwinPlaces) (uses : List Use) (bytes starts : List ℕ) (giver_lt : p.giver < 65536)
    (array_lt : p.array < 65536) where
  spelled_so : (code : List Insn) → SpellsLaid b (loaded e p.giver (load 0 ∷ cast 0 ∷ code)) wide fetches.Constant p uses bytes starts
  unfolding laid_body widened
  spelled_so code are s = with_cast p.giver p.array giver_lt array_lt bytes _ _ _ are s

pub spells_by_constant : (b : Body) (first : ℕ) (states : List State) (given : Emitting) → given.fetch ≡ fetches.Constant
    → (wide : List Bool) (p : TwinPlaces) (uses : List Use) (bytes starts : List ℕ) → p.giver < 65536 → p.array < 65536
    → SpellsLaid b (readied fetches.Constant p.giver (emission b first states given)) wide fetches.Constant p uses bytes starts
unfolding emission
spells_by_constant b first states given is wide p uses bytes starts giver_lt array_lt =
    let none = unplaced given.integer in
    subst (λ (code : List Insn). SpellsLaid b (loaded (emission b first states given) p.giver code) wide fetches.Constant p uses bytes starts)
    (sym (begins_by_constant b first (narrow given.fetch) is none))
    (spelled_so b (emission b first states given) wide p uses bytes starts giver_lt array_lt (rest_of b first (narrow given.fetch) none))
