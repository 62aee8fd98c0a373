-- Decimal numbers, read digit by digit, and lists of what words say.
use Rattle.std.proofs.Common.{◌≡◌, ℕ, ◌+◌, ◌-◌, ◌*◌, ◌<◌, ◌≤◌, Bool, true, false, cond, nat_le, nat_lt, List, [], ◌∷◌, ◌++◌, length, get_or, Option, Some, None, refl, sym, ap, ◌∙◌, arith, append_assoc, append-nil, length-append}
use Rattle.std.proofs.lemmas.Bool.{leb-true, le-leb, ltb-true, both_ways}
use Rattle.jc_bytes.proofs.OptionLaws.{none_some}
use Rattle.jc_bytes.specs.Digits.{is_digit}
use Rattle.jc_run_plans.specs.PlanWords.{decimal_behind, up_to}
use Rattle.jc_run_plans.specs.Plans.{with_item, each_of, one_of, few_turns, most_turns}

above_false : (most n : ℕ) → most < n → nat_le n most ≡ false
above_false most n lt = by (nat_le n most) refl
  where
    by : (t : Bool) → nat_le n most ≡ t → t ≡ false
    by true e = absurd (let le = leb-true n most e in omega (arith, le, lt))
    by false e = refl

-- ---- digits

-- a number that is too great already stays so
pub too_great : (most n : ℕ) (digits : List ℕ) → most < n → up_to most (decimal_behind n digits) ≡ None
too_great most n [] lt = ap (λ t. cond t (Some n) None) (above_false most n lt)
too_great most n (b ∷ digits) lt = by (is_digit b) (too_great most (n * 10 + (b - 48)) digits (omega (arith, lt)))
  where
    by : (t : Bool) → up_to most (decimal_behind (n * 10 + (b - 48)) digits) ≡ None → up_to most (cond t (decimal_behind (n * 10 + (b - 48)) digits) None) ≡ None
    by true more = more
    by false more = refl

pub fits : (most n : ℕ) → n ≤ most → up_to most (Some n) ≡ Some n
fits most n le = ap (λ t. cond t (Some n) None) (le-leb n most le)

pub above : (most n : ℕ) → most < n → up_to most (Some n) ≡ None
above most n lt = ap (λ t. cond t (Some n) None) (above_false most n lt)

kept : (most n : ℕ) → None ≡ up_to most (Some n) → most < n
kept most n e = by (nat_le n most) refl e
  where
    by : (t : Bool) → nat_le n most ≡ t → None ≡ cond t (Some n) None → most < n
    by true f g = absurd (none_some g)
    by false f g = let ne : n ≤ most → ⊥ = λ h. both_ways (nat_le n most) f (le-leb n most h) in omega (arith, ne)

-- one more digit makes it too great
pub digits_stop : (most n : ℕ) (digits : List ℕ) → 1 ≤ length digits → is_digit (get_or digits 0 0) ≡ true → None ≡ up_to most (Some (n * 10 + (get_or digits 0 0 - 48)))
    → up_to most (decimal_behind n digits) ≡ None
digits_stop most n [] le d e = absurd (omega (arith, le))
digits_stop most n (b ∷ digits) le d e = ap (λ t. up_to most (cond t (decimal_behind (n * 10 + (b - 48)) digits) None)) d ∙ too_great most (n * 10 + (b - 48)) digits (kept most (n * 10 + (b - 48)) e)

pub digits_end : (most n : ℕ) (digits : List ℕ) → length digits < 1 → n ≤ most → up_to most (decimal_behind n digits) ≡ Some n
digits_end most n [] none le = fits most n le
digits_end most n (b ∷ digits) none le = absurd (omega (arith, none))

-- the smaller of two bounds
pub up_to_twice : (most greater : ℕ) (o : Option ℕ) → most ≤ greater → up_to most (up_to greater o) ≡ up_to most o
up_to_twice most greater None le = refl
up_to_twice most greater (Some n) le = by (nat_le n greater) refl
  where
    by : (t : Bool) → nat_le n greater ≡ t → up_to most (cond t (Some n) None) ≡ up_to most (Some n)
    by true e = refl
    by false e = sym (above most n (let ne : n ≤ greater → ⊥ = λ h. both_ways (nat_le n greater) e (le-leb n greater h) in omega (arith, ne, le)))

-- a number that is small enough for both bounds
pub within_both : (most greater n : ℕ) (o : Option ℕ) → most ≤ greater → up_to greater o ≡ Some n → up_to most o ≡ up_to most (Some n)
within_both most greater n o le e = sym (up_to_twice most greater o le) ∙ ap (up_to most) e

pub within_none : (most greater : ℕ) (o : Option ℕ) → most ≤ greater → up_to greater o ≡ None → up_to most o ≡ None
within_none most greater o le e = sym (up_to_twice most greater o le) ∙ ap (up_to most) e

pub ruleset bounds = (within_both, within_none, fits, above)

-- one of at most 8
pub one_within : (threads : ℕ) (o : Option ℕ) → threads ≤ 8 → one_of threads (up_to 7 o) ≡ one_of threads o
one_within threads None le = refl
one_within threads (Some n) le = by (nat_le n 7) refl
  where
    by : (t : Bool) → nat_le n 7 ≡ t → one_of threads (cond t (Some n) None) ≡ cond (nat_lt n threads) (Some n) None
    by true e = refl
    by false e = by_less (nat_lt n threads) refl
      where
        by_less : (u : Bool) → nat_lt n threads ≡ u → None ≡ cond u (Some n) None
        by_less true f = absurd (both_ways (nat_le n 7) e (le-leb n 7 (let lt = ltb-true n threads f in omega (arith, lt, le))))
        by_less false f = refl

-- ---- what each word says

-- what was read, and then what the other words say
abbrev pub all_of : {X : Type 0} → List X → Option (List X) → Option (List X)
all_of done None = None
all_of done (Some items) = Some (done ++ items)

module _ {X : Type 0} where
  pub all_first : (o : Option (List X)) → o ≡ all_of [] o
  all_first None = refl
  all_first (Some items) = refl

  pub all_next : (read : List ℕ → Option X) (words more : List (List ℕ)) (word : List ℕ) (done : List X) (x : X) → words ≡ word ∷ more → read word ≡ Some x
      → all_of done (each_of read words) ≡ all_of (done ++ x ∷ []) (each_of read more)
  all_next read words more word done x e f =
      ap (λ w. all_of done (each_of read w)) e ∙ ap (λ o. all_of done (with_item o (each_of read more))) f ∙ by (each_of read more)
    where
      by : (o : Option (List X)) → all_of done (with_item (Some x) o) ≡ all_of (done ++ x ∷ []) o
      by None = refl
      by (Some items) = ap Some (sym (append_assoc done (x ∷ []) items))

  pub all_stop : (read : List ℕ → Option X) (words more : List (List ℕ)) (word : List ℕ) (done : List X) → words ≡ word ∷ more → read word ≡ None
      → all_of done (each_of read words) ≡ None
  all_stop read words more word done e f = ap (λ w. all_of done (each_of read w)) e ∙ ap (λ o. all_of done (with_item o (each_of read more))) f ∙ by (each_of read more)
    where
      by : (o : Option (List X)) → all_of done (with_item None o) ≡ None
      by None = refl
      by (Some items) = refl

  pub all_end : (read : List ℕ → Option X) (words : List (List ℕ)) (done : List X) → words ≡ [] → all_of done (each_of read words) ≡ Some done
  all_end read words done e = ap (λ w. all_of done (each_of read w)) e ∙ ap Some (append-nil done)

-- with one more there are too many turns
pub too_many : (read : List ℕ → Option ℕ) (words more : List (List ℕ)) (word : List ℕ) (done : List ℕ) → words ≡ word ∷ more → most_turns ≤ length done
    → few_turns (all_of done (each_of read words)) ≡ None
too_many read words more word done e le = ap (λ w. few_turns (all_of done (each_of read w))) e ∙ by (read word) (each_of read more)
  where
    by : (o : Option ℕ) (p : Option (List ℕ)) → few_turns (all_of done (with_item o p)) ≡ None
    by None p = refl
    by (Some t) None = refl
    by (Some t) (Some items) = ap (λ u. cond u (Some (done ++ t ∷ items)) None) (above_false most_turns (length (done ++ t ∷ items)) (let n = length-append done (t ∷ items) in omega (arith, le, n)))

pub few_enough : (done : List ℕ) → length done ≤ most_turns → few_turns (Some done) ≡ Some done
few_enough done le = ap (λ t. cond t (Some done) None) (le-leb (length done) most_turns le)
