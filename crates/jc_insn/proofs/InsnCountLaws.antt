-- Code has no more instructions and arms than bytes.
use Rattle.std.proofs.Common.{◌≡◌, ℕ, ◌+◌, ◌≤◌, List, [], ◌∷◌, length, map, refl, ◌∙◌, ap, arith, length-append}
use Rattle.std.proofs.lemmas.List.Sums.{sum_by-cons}
use Rattle.jc_methods.specs.declared.insn.Insn.{Insn}
use Rattle.jc_methods.specs.Insn.{arm_count, with_places}
use Rattle.jc_methods.specs.WellMade.{insns_and_arms}
use Rattle.jc_methods.specs.Starts.{insn_number}
use Rattle.jc_methods.proofs.PlacedInsnLaws.{same_arms}
use Rattle.jc_insn.specs.declared.item.CodeItem.TheVariants as items
use Rattle.jc_insn.specs.Items.{IsItem}
use Rattle.jc_insn.specs.Spells.{SpellsFrom, Spells}
use Rattle.jc_insn.proofs.SpelledInsnLaws.{text_facts}

-- an instruction takes a byte for itself and one for each arm, at least
pub insn_size : (at : ℕ) (text : List ℕ) (insn : Insn) → IsItem at text (items.Insn insn) → 1 + arm_count insn ≤ length text
insn_size at text insn is = (text_facts at text insn is).few

-- the instructions behind one
one_and_more : (insn : Insn) (code : List Insn) → insns_and_arms (insn ∷ code) ≡ (1 + arm_count insn) + insns_and_arms code
one_and_more insn code = sum_by-cons (λ (i : Insn). 1 + arm_count i) insn code

spelled_size : (at : ℕ) (bytes : List ℕ) (code : List Insn) (starts : List ℕ) → SpellsFrom at bytes code starts → insns_and_arms code ≤ length bytes
spelled_size at bytes [] starts s = omega arith
spelled_size at bytes (insn ∷ code) starts (text, rest, later, parts, starts_is, is, more) =
    let all = one_and_more insn code in
    let first = insn_size at text insn is in
    let behind = spelled_size (at + length text) rest code later more in
    let long = ap length parts in
    let both = length-append text rest in
    omega (arith, all, first, behind, long, both)

-- numbers in place of offsets change no count
with_places_count : (f : ℕ → ℕ) (code : List Insn) → insns_and_arms (map (with_places f) code) ≡ insns_and_arms code
with_places_count f [] = refl
with_places_count f (insn ∷ code) =
    let new = one_and_more (with_places f insn) (map (with_places f) code) in
    let old = one_and_more insn code in
    let arms = same_arms f insn in
    let behind = with_places_count f code in
    omega (arith, new, old, arms, behind)

pub code_size : (bytes : List ℕ) (code : List Insn) (starts : List ℕ) → Spells bytes code starts → insns_and_arms code ≤ length bytes
code_size bytes code starts s =
    let same = ap insns_and_arms s.places ∙ with_places_count (insn_number starts) s.spelled in
    let size = spelled_size 0 bytes s.spelled starts s.text in
    omega (arith, same, size)
