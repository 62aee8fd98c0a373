-- First places in a constant pool.
use Rattle.std.proofs.Common.{◌≡◌, ◌≢◌, inl, inr, ℕ, zero, suc, ◌+◌, ◌<◌, ◌≤◌, Bool, true, false, List, length, Option, Some, None, refl, sym, ◌∙◌, ap, arith, if◌then◌else◌}
use Rattle.std.proofs.lemmas.Bool.{cases_lt}
use Rattle.std.proofs.lemmas.List.{get_or_past}
use Rattle.std.proofs.lemmas.Option.{none-some}
use Rattle.std.proofs.lemmas.Slice.Eq.{bytes_eq-Decides}
use Rattle.std.specs.Str.{bytes_eq}
use Rattle.jc_bytes.specs.Decoder.{◌>>=◌}
use Rattle.jc_body.specs.Attributes.{is_text}
use Rattle.jc_pool.specs.declared.entry.Entry.{Entry}
use Rattle.jc_pool.specs.Adding.{IsFirst}
use Rattle.jc_pool.specs.Lookup.{utf8_in, utf8_of, class_name_of}
use Rattle.jc_pool.specs.Pool.{PoolValue}
use Rattle.jc_pool.proofs.AddedLaws.{class_within}
use Rattle.jc_instrument_code.specs.FirstPlaces.{first_from, text_place, class_place}

-- ---- the search

found_from : (test : ℕ → Bool) (more from place : ℕ) → from ≤ place → place < from + more → test place ≡ true
    → ((k : ℕ) → k < place → test k ≡ false) → first_from test from more ≡ place
found_from test zero from place le lt is before = absurd (omega (arith, le, lt))
found_from test (suc more) from place le lt is before = elim (cases_lt from place) [
  | inl less ↦
      ap (λ (t : Bool). if t then from else first_from test (from + 1) more) (before from less)
      ∙ found_from test more (from + 1) place (omega (arith, less)) (omega (arith, lt)) is before
  | inr not_less ↦
      let here : from ≡ place = omega (arith, le, not_less) in
      ap (λ (t : Bool). if t then from else first_from test (from + 1) more) (ap test here ∙ is) ∙ here
]

-- ---- the test

same_is_text : (text : List ℕ) (o : Option (List ℕ)) → o ≡ Some text → is_text text o ≡ true
same_is_text text o e = ap (is_text text) e ∙ (bytes_eq-Decides text text).1 refl

other_is_no_text : (text : List ℕ) (o : Option (List ℕ)) → o ≢ Some text → is_text text o ≡ false
other_is_no_text text None apart = refl
other_is_no_text text (Some t) apart = by (bytes_eq t text) (λ e. (bytes_eq-Decides t text).0 e)
  where
    by : (b : Bool) → (b ≡ true → t ≡ text) → b ≡ false
    by false same = refl
    by true same = absurd (apart (ap Some (same refl)))

first_found : (found : ℕ → Option (List ℕ)) (text : List ℕ) (size place : ℕ) → place < size → IsFirst found text place
    → first_from (λ k. is_text text (found k)) 0 size ≡ place
first_found found text size place lt first =
    found_from (λ k. is_text text (found k)) size 0 place (omega arith) (omega (arith, lt)) (same_is_text text (found place) first.there)
    (λ k less. other_is_no_text text (found k) (first.first k less))

-- ---- entries

pub text_within : (pool : PoolValue) (place : ℕ) (text : List ℕ) → utf8_of pool place ≡ Some text → place < length pool
unfolding utf8_of
text_within pool place text there = elim (cases_lt place (length pool)) [
  | inl less ↦ less
  | inr behind ↦ absurd (none-some text (sym (ap (λ (e : Option Entry). e >>= utf8_in) (get_or_past pool place None behind)) ∙ there))
]

pub text_found : (pool : PoolValue) (text : List ℕ) (place : ℕ) → IsFirst (utf8_of pool) text place → text_place pool text ≡ place
unfolding text_place
text_found pool text place first = first_found (utf8_of pool) text (length pool) place (text_within pool place text first.there) first

pub class_found : (pool : PoolValue) (name : List ℕ) (place : ℕ) → IsFirst (class_name_of pool) name place → class_place pool name ≡ place
unfolding class_place
class_found pool name place first =
    first_found (class_name_of pool) name (length pool) place (class_within pool place name first.there) first
