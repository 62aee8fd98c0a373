-- What is known of the instructions that a decoder gives.
use Rattle.std.proofs.Common.{◌≡◌, ℕ, suc, ◌+◌, ◌<◌, ◌≤◌, List, [], ◌∷◌, length, get_or, All, cond, nat_eq, Bool, true, false, sym, ◌∙◌, ap, subst, arith, length-append, zero}
use Rattle.std.proofs.lemmas.List.{length-map}
use Rattle.std.proofs.lemmas.List.Elements.{All-map, All-nil, All-cons}
use Rattle.jc_bytes.specs.Reader.{most_read}
use Rattle.jc_methods.specs.declared.insn.Insn.{Insn}
use Rattle.jc_methods.specs.Insn.{IsWellFormed, arm_count, with_places}
use Rattle.jc_methods.specs.Flow.{targets_of}
use Rattle.jc_methods.specs.Starts.{AreStarts, insn_number}
use Rattle.jc_methods.proofs.PlacedInsnLaws.{same_arms}
use Rattle.jc_insn.specs.Spells.{SpellsFrom, Spells}
use Rattle.jc_insn.specs.Decoding.{IsInsnAmong}
use Rattle.jc_insn.specs.declared.item.CodeItem.TheVariants as items
use Rattle.jc_insn.proofs.CodeReadingLaws.{some_bytes}
use Rattle.jc_insn.proofs.SpelledInsnLaws.{text_facts}
use Rattle.jc_insn.proofs.PlacesLaws.{well_formed_with, targets_fit}

-- an instruction that is spelled in at most so many bytes
record IsSpelledIn (most : ℕ) (insn : Insn) : Type 0 where
  well_formed : IsWellFormed insn
  few : arm_count insn ≤ most

each_spelled : (most at : ℕ) (bytes : List ℕ) (code : List Insn) (starts : List ℕ) → SpellsFrom at bytes code starts → length bytes ≤ most
    → All (IsSpelledIn most) code
each_spelled most at bytes [] starts s few = All-nil (IsSpelledIn most)
each_spelled most at bytes (insn ∷ code) starts (text, rest, later, parts, starts_is, is, more) few =
    let f = text_facts at text insn is in
    let long = ap length parts in
    let both = length-append text rest in
    All-cons (IsSpelledIn most) insn code (record { well_formed = f.well_formed; few = omega (arith, f.few, long, both, few) })
    (each_spelled most (at + length text) rest code later more (omega (arith, long, both, few)))

count_is : (at : ℕ) (bytes : List ℕ) (code : List Insn) (starts : List ℕ) → SpellsFrom at bytes code starts → length starts ≡ length code + 1
count_is at bytes [] starts s = ap length s.1
count_is at bytes (insn ∷ code) starts (text, rest, later, parts, starts_is, is, more) = let ih = count_is
    (at + length text) rest code later more in let e = ap length starts_is in omega (arith, ih, e)

number_below : (starts : List ℕ) (offset : ℕ) → 1 ≤ length starts → insn_number starts offset < length starts
number_below [] offset some = absurd (omega (arith, some))
number_below (end ∷ []) offset some = omega arith
number_below (start ∷ next ∷ starts) offset some = by (nat_eq start offset) (number_below (next ∷ starts) offset (omega arith))
  where
    by : (b : Bool) → insn_number (next ∷ starts) offset < suc (length starts) → cond b 0 (1 + insn_number (next ∷ starts) offset) < suc (suc (length starts))
    by true below = omega arith
    by false below = omega (arith, below)

at_most : (n : ℕ) (xs : List ℕ) → All (λ x. x < n + 1) xs → All (λ x. x ≤ n) xs
at_most n xs all k d below = let h = all k d below in omega (arith, h)

among : (count : ℕ) (starts : List ℕ) (insn : Insn) → length starts ≡ count + 1 → IsSpelledIn most_read insn
    → IsInsnAmong count (with_places (insn_number starts) insn)
among count starts insn long is = record {
  well_formed = well_formed_with (insn_number starts) insn is.well_formed;
  few = subst (λ (n : ℕ). n ≤ most_read) (sym (same_arms (insn_number starts) insn)) is.few;
  places = at_most count (targets_of (with_places (insn_number starts) insn))
      (targets_fit (insn_number starts) (count + 1) insn (λ k. let h = number_below starts k (omega (arith, long)) in omega (arith, h, long)));
}

pub all_among : (bytes : List ℕ) (code : List Insn) (starts : List ℕ) → length bytes ≤ most_read → Spells bytes code starts
    → All (IsInsnAmong (length code)) code
all_among bytes code starts few s =
    let count : length code ≡ length s.spelled = ap length s.places ∙ length-map s.spelled (with_places (insn_number starts)) in
    let long = count_is 0 bytes s.spelled starts s.text in
    subst (All (IsInsnAmong (length code))) (sym s.places)
    (All-map (IsInsnAmong (length code)) (with_places (insn_number starts)) s.spelled
    (λ k d below. among (length code) starts (get_or s.spelled k d) (omega (arith, count, long))
    (each_spelled most_read 0 bytes s.spelled starts s.text few k d below)))

-- ---- where the instructions begin

-- the offsets rise from the first one to the end
record Rise (at size : ℕ) (count : ℕ) (starts : List ℕ) : Type 0 where
  first : get_or starts 0 0 ≡ at
  rising : (k : ℕ) → k < count → get_or starts k 0 < get_or starts (k + 1) 0
  end : get_or starts count 0 ≡ at + size

rises : (at : ℕ) (bytes : List ℕ) (code : List Insn) (starts : List ℕ) → SpellsFrom at bytes code starts → Rise at (length bytes) (length code) starts
rises at bytes [] starts s =
    let first_is = ap (λ (l : List ℕ). get_or l 0 0) s.1 in
    let none = ap length s.0 in
    record { first = first_is; rising = λ k below. absurd (omega (arith, below)); end = omega (arith, first_is, none) }
rises at bytes (insn ∷ code) starts (text, rest, later, parts, starts_is, is, more) =
    let behind = rises (at + length text) rest code later more in
    let long = ap length parts in
    let both = length-append text rest in
    let some = some_bytes at text (items.Insn insn) is in
    let end_is = ap (λ (l : List ℕ). get_or l (suc (length code)) 0) starts_is in
    record {
      first = ap (λ (l : List ℕ). get_or l 0 0) starts_is;
      rising = λ k below. subst (λ (l : List ℕ). get_or l k 0 < get_or l (k + 1) 0) (sym starts_is)
          (step at (length text) (length rest) (length code) later behind some k below);
      end = omega (arith, end_is, behind.end, long, both);
    }
  where
    step : (at size rest count : ℕ) (later : List ℕ) → Rise (at + size) rest count later → 1 ≤ size → (k : ℕ) → k < suc count
        → get_or (at ∷ later) k 0 < get_or (at ∷ later) (k + 1) 0
    step at size rest count later behind some zero below = omega (arith, behind.first, some)
    step at size rest count later behind some (suc k) below =
        let up = behind.rising k (omega (arith, below)) in
        let next : get_or (at ∷ later) (suc k + 1) 0 ≡ get_or later (k + 1) 0 = ap (λ (j : ℕ). get_or (at ∷ later) j 0)
        (let e : suc k + 1 ≡ suc (k + 1) = omega arith in e) in
        omega (arith, up, next)

pub are_starts : (bytes : List ℕ) (code : List Insn) (starts : List ℕ) → Spells bytes code starts → AreStarts (length code) (length bytes) starts
are_starts bytes code starts s =
    let count : length s.spelled ≡ length code = sym (ap length s.places ∙ length-map s.spelled (with_places (insn_number starts))) in
    let long = count_is 0 bytes s.spelled starts s.text in
    let up = rises 0 bytes s.spelled starts s.text in
    let end_is = ap (λ (n : ℕ). get_or starts n 0) count in
    record {
      one_more = omega (arith, long, count);
      first = up.first;
      rising = λ k below. up.rising k (omega (arith, count, below));
      end = omega (arith, up.end, end_is);
    }
