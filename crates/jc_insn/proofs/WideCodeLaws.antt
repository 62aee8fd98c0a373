-- What is written of code, of which some jumps are wide, is a spelling of its wide form.
use Rattle.std.proofs.Common.{◌≡◌, ℕ, zero, suc, ◌+◌, ◌<◌, ◌≤◌, Bool, true, false, cond, List, [], ◌∷◌, ◌++◌, length, map, get_or, All, nat_eq, refl, sym, ◌∙◌, ap, ap₂, subst, arith, w16, w32, append_assoc, length-append, zero-add}
use Rattle.std.specs.Prelude.{slice_index}
use Rattle.std.specs.Int.{cast_signed}
use Rattle.std.proofs.lemmas.List.{map-append}
use Rattle.std.proofs.lemmas.List.Elements.{All-tail}
use Rattle.std.proofs.lemmas.Bool.{eq-eqb, eqb-true, eqb-false}
use Rattle.jc_bytes.specs.BigNumbers.{short, word}
use Rattle.jc_methods.specs.Opcode as opcode
use Rattle.jc_methods.specs.declared.form.Form.TheVariants as forms
use Rattle.jc_methods.proofs.InsnFormLaws.{named_forms, inverse_form, test_below}
use Rattle.jc_methods.specs.declared.insn.Insn.{Insn}
use Rattle.jc_methods.specs.declared.insn.Insn.TheVariants as insns
use Rattle.jc_methods.specs.declared.insn.Flow.{Flow}
use Rattle.jc_methods.specs.declared.insn.Flow.TheVariants as flows
use Rattle.jc_methods.specs.Insn.{with_places}
use Rattle.jc_methods.specs.Flow.{targets_of, jump_target, inverse_of, is_conditional_branch, flow_of}
use Rattle.jc_methods.specs.Starts.{insn_number}
use Rattle.jc_methods.specs.Widened.{WideSet, none_wide, goto, inverted, widths_by, wide_place_from, wide_place, widened_by, widened_from, widened}
use Rattle.jc_methods.proofs.ByFlowLaws.{insn_by}
use Rattle.jc_methods.proofs.PlacedInsnLaws.{flow_placed}
use Rattle.jc_insn.specs.declared.item.CodeItem.TheVariants as items
use Rattle.jc_insn.specs.Items.{IsItem, target_of, operands}
use Rattle.jc_insn.specs.Spells.{SpellsFrom, Spells}
use Rattle.jc_insn.specs.Sizes.{size_of, StartFrom}
use Rattle.jc_insn.specs.Layouts.{wide_starts_by, wide_starts}
use Rattle.jc_insn.specs.Writing.{difference, insn_text, code_text, IsNearJump, AllNear}
use Rattle.jc_insn.proofs.InsnWritingLaws.{jump_tests}
use Rattle.jc_insn.proofs.ReadBackLaws.{short_size, word_size, big_short, big_word, word_target}
use Rattle.jc_insn.proofs.OperandsSpelledLaws.{item_of, one_number}
use Rattle.jc_insn.proofs.ShortestSpellingLaws.{Fits, text_is, near_text_is}
use Rattle.jc_insn.proofs.SizeSumsLaws.{some_size, first_start, above_first, count_starts, step_in, first_number}
use Rattle.jc_insn.proofs.TextSizesLaws.{text_size, same_size}
use Rattle.jc_insn.proofs.PlacesLaws.{places_both}
use Rattle.jc_insn.proofs.LaidOutLaws.{IsLaidOut, EachFits, each_fits, small_starts, all_small, all_low}

-- ---- wide conditional jumps

-- a wide conditional jump: two instructions stand for it
abbrev IsTwo : Flow → Bool → Type 0
IsTwo flow w = (flow ≡ flows.Branches) × (w ≡ true)

-- it takes eight bytes
test_size : (at : ℕ) (insn : Insn) → flow_of insn ≡ flows.Branches → size_of at true insn ≡ 8
test_size at (insns.Jump op to) e = by (nat_eq op opcode.goto) e
  where
    by : (b : Bool) → cond b flows.Jumps flows.Branches ≡ flows.Branches → ◌≡◌ {A = ℕ} (cond b 5 8) 8
    by true e = absurd cc
    by false e = refl
test_size at insn e = absurd (insn_by insn e)

not_two : (flow : Flow) → IsTwo flow false → ⊥
not_two flow (tests, is_wide) = cc

two_size : (at : ℕ) (w : Bool) (insn : Insn) → IsTwo (flow_of insn) w → size_of at w insn ≡ 8
two_size at w insn two = ap (λ (b : Bool). size_of at b insn) two.1 ∙ test_size at insn two.0

-- ---- the numbers of the wide form

-- what begins at the first offset has number 0
here_by : (flow : Flow) (w : Bool) (at : ℕ) (rest : List ℕ) → 1 ≤ length rest → insn_number (wide_starts_by at flow w ++ rest) at ≡ 0
here_by flows.Branches true at rest some = rw (eq-eqb at at refl) refl
here_by flow w at rest some = first_number at rest some

-- what begins behind an instruction is numbered behind all that stands for it
behind_by : (flow : Flow) (w : Bool) (at : ℕ) (rest : List ℕ) (offset : ℕ) → 1 ≤ length rest → at < offset → (IsTwo flow w → at + 8 ≤ offset)
    → insn_number (wide_starts_by at flow w ++ rest) offset ≡ widths_by flow w + insn_number rest offset
behind_by flows.Branches true at rest offset some above far =
    let beyond : at + 8 ≤ offset = far (refl, refl) in
    let first = step_in at offset ((at + 3) ∷ rest) (λ e. omega (arith, e, above)) (omega arith) in
    let second = step_in (at + 3) offset rest (λ e. omega (arith, e, beyond)) some in
    omega (arith, first, second)
behind_by flow w at rest offset some above far = step_in at offset rest (λ e. omega (arith, e, above)) some

-- what stands for an instruction begins where the instruction does, and what stands for the next one behind it
start_by : (flow : Flow) (w : Bool) (at : ℕ) (rest : List ℕ) → get_or (wide_starts_by at flow w ++ rest) 0 0 ≡ at
start_by flows.Branches true at rest = refl
start_by flow w at rest = refl

next_by : (flow : Flow) (w : Bool) (at : ℕ) (rest : List ℕ) (place : ℕ)
    → get_or (wide_starts_by at flow w ++ rest) (widths_by flow w + place) 0 ≡ get_or rest place 0
next_by flows.Branches true at rest place =
    let e : 2 + place ≡ suc (suc place) = omega arith in ap (λ (k : ℕ). get_or (at ∷ (at + 3) ∷ rest) k 0) e
next_by flow w at rest place = let e : 1 + place ≡ suc place = omega arith in ap (λ (k : ℕ). get_or (at ∷ rest) k 0) e

some_by : (flow : Flow) (w : Bool) (at : ℕ) (rest : List ℕ) → 1 ≤ length (wide_starts_by at flow w ++ rest)
some_by flows.Branches true at rest = omega arith
some_by flow w at rest = omega arith

-- ---- bytes

-- What is read back of an instruction at this offset: a wide conditional jump is two, its inverse that leads past the second one,
-- and goto. Places are offsets.
abbrev spelled_by : ℕ → Insn → Flow → Bool → List Insn
spelled_by at raw flows.Branches true = inverted (at + 8) raw ∷ goto (jump_target raw) ∷ []
spelled_by at raw flow w = raw ∷ []

-- the text spells these instructions, which begin at these offsets, in front of whatever spells others
abbrev SpellsInFront : ℕ → List ℕ → List Insn → List ℕ → Type 0
SpellsInFront at text front begins = (rest : List ℕ) (code : List Insn) (starts : List ℕ) → SpellsFrom (at + length text) rest code starts
    → SpellsFrom at (text ++ rest) (front ++ code) (begins ++ starts)

one_in_front : (at : ℕ) (text : List ℕ) (insn : Insn) → IsItem at text (items.Insn insn) → SpellsInFront at text (insn ∷ []) (at ∷ [])
one_in_front at text insn is rest code starts s = (text, rest, starts, refl, refl, is, s)

goto_is : (at to : ℕ) → at < 4294967296 → to < 4294967296 → IsItem at (opcode.goto_w ∷ word (difference at to)) (items.Insn (insns.Jump opcode.goto to))
unfolding operands
goto_is at to at_fits to_fits =
    let item = items.Insn (insns.Jump opcode.goto to) in
    item_of at opcode.goto_w forms.WideJump (word (difference at to)) item (let rows = named_forms in rows.12)
    (one_number 4 (λ v. items.Insn (insns.Jump opcode.goto (target_of at (cast_signed w32 v)))) (difference at to) (word (difference at to)) item
    (big_word (difference at to) (omega arith)) (ap (λ (t : ℕ). items.Insn (insns.Jump opcode.goto t)) (sym (word_target at to at_fits to_fits))))

inverse_is : (at op : ℕ) → at ≤ 2147483647 → is_conditional_branch op ≡ true → IsItem at (inverse_of op ∷ short 8) (items.Insn (insns.Jump (inverse_of op) (at + 8)))
unfolding operands
inverse_is at op small test =
    let item = items.Insn (insns.Jump (inverse_of op) (at + 8)) in
    let form = inverse_form op (test_below op test) test in
    let there : target_of at (cast_signed w16 8) ≡ at + 8 = omega (arith, small) in
    item_of at (inverse_of op) forms.Jump (short 8) item form.0
    (one_number 2 (λ v. items.Insn (insns.Jump (inverse_of op) (target_of at (cast_signed w16 v)))) 8 (short 8) item (big_short 8 (omega arith))
    (ap (λ (t : ℕ). items.Insn (insns.Jump (inverse_of op) t)) (sym there)))

-- the text is of an instruction at this offset that goes on so, and is a wide jump or not
abbrev StandsInFront : ℕ → List ℕ → Insn → Flow → Bool → Type 0
StandsInFront at text raw flow w = SpellsInFront at text (spelled_by at raw flow w) (wide_starts_by at flow w)

-- what is written of a wide jump, which is goto or not
abbrev text_of_jump : Bool → ℕ → ℕ → ℕ → List ℕ
text_of_jump is_goto at op to =
    cond is_goto (opcode.goto_w ∷ word (difference at to)) (inverse_of op ∷ short 8 ++ opcode.goto_w ∷ word (difference (at + 3) to))

-- how a jump goes on, which is goto or not
abbrev flow_of_goto : Bool → Flow
flow_of_goto is_goto = cond is_goto flows.Jumps flows.Branches

jump_in_front : (at op to : ℕ) (is_goto : Bool) → nat_eq op opcode.goto ≡ is_goto → at ≤ 2147483647 → Fits at (insns.Jump op to)
    → StandsInFront at (text_of_jump is_goto at op to) (insns.Jump op to) (flow_of_goto is_goto) true
jump_in_front at op to true is small fits =
    let same : op ≡ opcode.goto = eqb-true op opcode.goto is in
    let text = opcode.goto_w ∷ word (difference at to) in
    one_in_front at text (insns.Jump op to)
    (subst (λ (o : ℕ). IsItem at text (items.Insn (insns.Jump o to))) (sym same) (goto_is at to (omega (arith, small)) (fits.places 0 to (omega arith))))
jump_in_front at op to false is small fits = λ rest code starts more.
    let test = jump_tests op fits.well_formed (eqb-false op opcode.goto is) in
    let to_fits = fits.places 0 to (omega arith) in
    let first = inverse_of op ∷ short 8 in
    let second = opcode.goto_w ∷ word (difference (at + 3) to) in
    let first_size : length first ≡ 3 = let e = short_size 8 in omega (arith, e) in
    let second_size : length second ≡ 5 = let e = word_size (difference (at + 3) to) in omega (arith, e) in
    let both_size = length-append first second in
    let there : at + 3 ≡ at + length first = omega (arith, first_size) in
    let end : at + length (first ++ second) ≡ (at + 3) + length second = omega (arith, both_size, first_size) in
    let behind : SpellsFrom (at + 3) (second ++ rest) (insns.Jump opcode.goto to ∷ code) ((at + 3) ∷ starts) =
    one_in_front (at + 3) second (insns.Jump opcode.goto to) (goto_is (at + 3) to (omega (arith, small)) to_fits) rest code starts
    (subst (λ (p : ℕ). SpellsFrom p rest code starts) end more) in
    let all = insns.Jump (inverse_of op) (at + 8) ∷ insns.Jump opcode.goto to ∷ code in
    subst (λ (l : List ℕ). SpellsFrom at l all (at ∷ (at + 3) ∷ starts)) (sym (append_assoc first second rest))
    (one_in_front at first (insns.Jump (inverse_of op) (at + 8)) (inverse_is at op small test) (second ++ rest) (insns.Jump opcode.goto to ∷ code)
    ((at + 3) ∷ starts) (subst (λ (p : ℕ). SpellsFrom p (second ++ rest) (insns.Jump opcode.goto to ∷ code) ((at + 3) ∷ starts)) there behind))

-- any other instruction, by its own spelling
plain_in_front : (flow : Flow) (w : Bool) (at : ℕ) (text : List ℕ) (raw : Insn) → (IsTwo flow w → ⊥) → IsItem at text (items.Insn raw)
    → StandsInFront at text raw flow w
plain_in_front flows.Branches true at text raw other is = absurd (other (refl, refl))
plain_in_front flow w at text raw other is = one_in_front at text raw is

insn_in_front : (w : Bool) (at : ℕ) (raw : Insn) → Fits at raw → at ≤ 2147483647 → (w ≡ false → IsNearJump at raw)
    → StandsInFront at (insn_text at w raw) raw (flow_of raw) w
unfolding insn_text
insn_in_front false at raw fits small near =
    plain_in_front (flow_of raw) false at (insn_text at false raw) raw (not_two (flow_of raw)) (near_text_is at raw fits (near refl))
insn_in_front true at (insns.Jump op to) fits small near = jump_in_front at op to (nat_eq op opcode.goto) refl small fits
insn_in_front true at raw fits small near =
    plain_in_front (flow_of raw) true at (insn_text at true raw) raw (λ two. insn_by raw two.0) (text_is at true raw fits (λ op to is. absurd cc))

-- ---- code of which these jumps are wide

module _ (wide : WideSet) where
  some_wide : (n at : ℕ) (code : List Insn) (starts : List ℕ) → StartFrom wide n at code starts → 1 ≤ length (wide_starts wide n code starts)
  some_wide n at [] starts s = let e = ap length s in omega (arith, e)
  some_wide n at (insn ∷ code) [] (later, is, more) = absurd cc
  some_wide n at (insn ∷ code) (start ∷ starts) s = some_by (flow_of insn) (wide n) start (wide_starts wide (suc n) code starts)

  number_from : (n at : ℕ) (code : List Insn) (starts : List ℕ) → StartFrom wide n at code starts → (k : ℕ) → k ≤ length code
      → insn_number (wide_starts wide n code starts) (get_or starts k 0) ≡ wide_place_from wide n code k
  number_from n at [] starts s zero le = ap (λ (l : List ℕ). insn_number l (get_or l 0 0)) s
  number_from n at [] starts s (suc k) le = absurd (omega (arith, le))
  number_from n at (insn ∷ code) starts (later, is, more) zero le =
      ap (λ (l : List ℕ). insn_number (wide_starts wide n (insn ∷ code) l) (get_or l 0 0)) is
      ∙ here_by (flow_of insn) (wide n) at (wide_starts wide (suc n) code later) (some_wide (suc n) (at + size_of at (wide n) insn) code later more)
  number_from n at (insn ∷ code) starts (later, is, more) (suc k) le =
      let next = at + size_of at (wide n) insn in
      let long = count_starts wide (suc n) next code later more in
      let above = above_first wide (suc n) next code later more k (omega (arith, long, le)) in
      let some = some_size at (wide n) insn in
      ap (λ (l : List ℕ). insn_number (wide_starts wide n (insn ∷ code) l) (get_or l (suc k) 0)) is
      ∙ behind_by (flow_of insn) (wide n) at (wide_starts wide (suc n) code later) (get_or later k 0) (some_wide (suc n) next code later more)
      (omega (arith, above, some)) (λ two. let e = two_size at (wide n) insn two in omega (arith, above, e))
      ∙ ap (λ (m : ℕ). widths_by (flow_of insn) (wide n) + m) (number_from (suc n) next code later more k (omega (arith, le)))

  -- what stands for an instruction begins where the instruction does, and behind the end nothing begins
  start_from : (n : ℕ) (code : List Insn) (starts : List ℕ) → length starts ≡ length code + 1 → (k : ℕ)
      → get_or (wide_starts wide n code starts) (wide_place_from wide n code k) 0 ≡ get_or starts k 0
  start_from n [] starts long k = refl
  start_from n (insn ∷ code) [] long k = absurd (omega (arith, long))
  start_from n (insn ∷ code) (start ∷ starts) long zero = start_by (flow_of insn) (wide n) start (wide_starts wide (suc n) code starts)
  start_from n (insn ∷ code) (start ∷ starts) long (suc k) =
      next_by (flow_of insn) (wide n) start (wide_starts wide (suc n) code starts) (wide_place_from wide (suc n) code k)
      ∙ start_from (suc n) code starts (omega (arith, long)) k

  -- what is read back of the code
  abbrev code_as : (ℕ → ℕ) → (n : ℕ) → List Insn → List ℕ → List Insn
  code_as places n (insn ∷ code) (at ∷ starts) =
      spelled_by at (with_places places insn) (flow_of insn) (wide n) ++ code_as places (suc n) code starts
  code_as places n code starts = []

  -- what is written of the code spells what is read back of it
  abbrev SpellsBack : (ℕ → ℕ) → (n at : ℕ) → List Insn → List ℕ → Type 0
  SpellsBack places n at code starts = SpellsFrom at (code_text places wide n code starts) (code_as places n code starts) (wide_starts wide n code starts)

  -- it has room at these offsets
  record HasRoom (places : ℕ → ℕ) (n : ℕ) (code : List Insn) (starts : List ℕ) : Type 0 where
    fits : EachFits places code starts
    low : All (λ s. s ≤ 2147483647) starts
    near : AllNear places wide n code starts

  spells_back : (places : ℕ → ℕ) (n at : ℕ) (code : List Insn) (starts : List ℕ) → StartFrom wide n at code starts → HasRoom places n code starts
      → SpellsBack places n at code starts
  spells_back places n at [] starts s room = (refl, s)
  spells_back places n at (insn ∷ code) starts (later, is, more) room =
      let here = subst (HasRoom places n (insn ∷ code)) is room in
      let raw = with_places places insn in
      let text = insn_text at (wide n) raw in
      let size : at + size_of at (wide n) insn ≡ at + length text =
      ap (λ (s : ℕ). at + s) (sym (text_size at (wide n) raw ∙ same_size places at (wide n) insn)) in
      let behind = spells_back places (suc n) (at + length text) code later (subst (λ (p : ℕ). StartFrom wide (suc n) p code later) size more)
      (record { fits = here.fits.1; low = All-tail (λ s. s ≤ 2147483647) at later here.low; near = here.near.1 }) in
      subst (SpellsBack places n at (insn ∷ code)) (sym is)
      (subst (λ (f : Flow). SpellsFrom at (text ++ code_text places wide (suc n) code later) (spelled_by at raw f (wide n) ++ code_as places (suc n) code later)
      (wide_starts_by at f (wide n) ++ wide_starts wide (suc n) code later)) (flow_placed places insn)
      (insn_in_front (wide n) at raw here.fits.0 (here.low 0 at (omega arith)) here.near.0 (code_text places wide (suc n) code later)
      (code_as places (suc n) code later) (wide_starts wide (suc n) code later) behind))

-- ---- numbers in place of offsets

module _ (wide : WideSet) (numbers offsets places : ℕ → ℕ) where
  abbrev Leads : Insn → Type 0
  Leads insn = All (λ to. numbers (offsets to) ≡ places to) (targets_of insn)

  -- what begins behind what stands for a wide conditional jump is numbered two behind it
  abbrev PassesTest : ℕ → ℕ → Flow → Bool → Type 0
  PassesTest here at flow w = IsTwo flow w → numbers (at + 8) ≡ here + 2

  image_as : (flow : Flow) (w : Bool) (here at : ℕ) (insn : Insn) → flow_of insn ≡ flow → Leads insn → PassesTest here at flow w
      → map (with_places numbers) (spelled_by at (with_places offsets insn) flow w) ≡ widened_by places here insn flow w
  image_as flows.Branches true here at (insns.Jump op to) is leads next =
      λ i. insns.Jump (inverse_of op) (next (refl, refl) i) ∷ insns.Jump opcode.goto (leads 0 to (omega arith) i) ∷ []
  image_as flows.Branches true here at insn is leads next = absurd (insn_by insn is)
  image_as flow w here at insn is leads next = ap (λ (i : Insn). i ∷ []) (places_both offsets numbers places insn leads)

  -- the instructions are numbered as in the wide form, from this place on
  abbrev NumberedWide : (n here : ℕ) → List Insn → List ℕ → Type 0
  NumberedWide n here code starts = (k : ℕ) → k ≤ length code → numbers (get_or starts k 0) ≡ here + wide_place_from wide n code k

  -- the numbers give what stands in the wide form
  abbrev IsWidened : (n here : ℕ) → List Insn → List ℕ → Type 0
  IsWidened n here code starts = map (with_places numbers) (code_as wide offsets n code starts) ≡ widened_from places wide n here code

  first_place : (n : ℕ) (code : List Insn) → wide_place_from wide n code 0 ≡ 0
  first_place n [] = refl
  first_place n (insn ∷ code) = refl

  as_widened : (n here at : ℕ) (code : List Insn) (starts : List ℕ) → StartFrom wide n at code starts → All Leads code → NumberedWide n here code starts
      → IsWidened n here code starts
  as_widened n here at [] starts s lead numbered = refl
  as_widened n here at (insn ∷ code) starts (later, is, more) lead numbered =
      let next = at + size_of at (wide n) insn in
      let width = widths_by (flow_of insn) (wide n) in
      let front = spelled_by at (with_places offsets insn) (flow_of insn) (wide n) in
      let begins : (k : ℕ) → k ≤ length code → numbers (get_or later k 0) ≡ here + (width + wide_place_from wide (suc n) code k) =
      λ k le. ap (λ (l : List ℕ). numbers (get_or l (suc k) 0)) (sym is) ∙ numbered (suc k) (omega (arith, le)) in
      let passes : PassesTest here at (flow_of insn) (wide n) = λ two.
      let there : at + 8 ≡ get_or later 0 0 = let s = two_size at (wide n) insn two in let f = first_start wide (suc n) next code later more in omega (arith, s, f) in
      let none = first_place (suc n) code in
      let width_is = ap₂ widths_by two.0 two.1 in
      ap numbers there ∙ begins 0 (omega arith) ∙ omega (arith, width_is, none) in
      let behind : NumberedWide (suc n) (here + width) code later = λ k le. let e = begins k le in omega (arith, e) in
      ap (λ (l : List ℕ). map (with_places numbers) (code_as wide offsets n (insn ∷ code) l)) is
      ∙ map-append (with_places numbers) front (code_as wide offsets (suc n) code later)
      ∙ ap₂ (λ (a b : List Insn). a ++ b) (image_as (flow_of insn) (wide n) here at insn refl (lead 0 insn (omega arith)) passes)
      (as_widened (suc n) (here + width) next code later more (All-tail Leads insn code lead) behind)

-- ---- the whole

pub number_of_wide_start : (wide : WideSet) (code : List Insn) (starts : List ℕ) → StartFrom wide 0 0 code starts → (k : ℕ) → k ≤ length code
    → insn_number (wide_starts wide 0 code starts) (get_or starts k 0) ≡ wide_place wide code k
number_of_wide_start wide code starts s k le = number_from wide 0 0 code starts s k le

pub wide_start : (wide : WideSet) (code : List Insn) (starts : List ℕ) → length starts ≡ length code + 1 → (k : ℕ)
    → get_or (wide_starts wide 0 code starts) (wide_place wide code k) 0 ≡ get_or starts k 0
wide_start wide code starts long k = start_from wide 0 code starts long k

-- what is written of the code spells its wide form
abbrev pub SpellsWide : WideSet → List Insn → List ℕ → Type 0
SpellsWide wide code starts = Spells (code_text (slice_index starts) wide 0 code starts) (widened wide code) (wide_starts wide 0 code starts)

pub spells_wide : (wide : WideSet) (code : List Insn) (starts : List ℕ) → IsLaidOut wide code starts → AllNear (slice_index starts) wide 0 code starts
    → SpellsWide wide code starts
unfolding widened
spells_wide wide code starts out near = record {
  spelled = code_as wide (slice_index starts) 0 code starts;
  text = spells_back wide (slice_index starts) 0 0 code starts out.starts_at (record {
    fits = each_fits (slice_index starts) code starts (small_starts wide code starts out.starts_at out.end)
        (all_small wide code starts out.starts_at out.end) out.well_formed out.in_range;
    low = all_low wide code starts out;
    near = near;
  });
  places = sym (as_widened wide (insn_number (wide_starts wide 0 code starts)) (slice_index starts) (wide_place wide code) 0 0 0 code starts
      out.starts_at leads numbered);
}
  where
    leads : All (λ insn. All (λ to. insn_number (wide_starts wide 0 code starts) (slice_index starts to) ≡ wide_place wide code to) (targets_of insn)) code
    leads k d below = λ j e inside.
        let lt = out.places k d below j e inside in
        number_of_wide_start wide code starts out.starts_at (get_or (targets_of (get_or code k d)) j e) (omega (arith, lt))

    numbered : NumberedWide wide (insn_number (wide_starts wide 0 code starts)) (slice_index starts) (wide_place wide code) 0 0 code starts
    numbered k le = number_of_wide_start wide code starts out.starts_at k le ∙ sym (zero-add (wide_place wide code k))

-- ---- where no jump is wide

one_start : (flow : Flow) (at : ℕ) → wide_starts_by at flow false ≡ at ∷ []
one_start flows.Branches at = refl
one_start flow at = refl

starts_from : (n : ℕ) (code : List Insn) (starts : List ℕ) → wide_starts none_wide n code starts ≡ starts
starts_from n [] starts = refl
starts_from n (insn ∷ code) [] = refl
starts_from n (insn ∷ code) (at ∷ starts) = ap₂ (λ (a b : List ℕ). a ++ b) (one_start (flow_of insn) at) (starts_from (suc n) code starts)

pub starts_stay : (code : List Insn) (starts : List ℕ) → wide_starts none_wide 0 code starts ≡ starts
starts_stay code starts = starts_from 0 code starts
