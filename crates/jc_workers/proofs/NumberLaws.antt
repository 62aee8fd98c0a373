-- Numbers that were drawn.
use Rattle.std.proofs.Common.{◌≡◌, ◌⊎◌, ℕ, zero, suc, ◌+◌, ◌<◌, ◌≤◌, List, [], ◌∷◌, ◌++◌, length, sym, ap, ◌∙◌, refl, inl, inr, ⊎_elim, arith}
use Rattle.std.proofs.Common.{Bool, true, false, cond, get_or, add-one, length-append, append-nil}
use Rattle.std.proofs.lemmas.Bool.Decides.{nat_tests}
use Rattle.std.proofs.lemmas.Bool.{lt-ltb, ltb-true, cases_lt, cases_order, cases_eq}
use Rattle.std.proofs.lemmas.List.{get_or_default, get_or_append_left, get_or_push}
use Rattle.std.proofs.lemmas.List.Elements.{filter-append, Contains-append_left, Contains-append_right, Contains-append_cases}
use Rattle.std.specs.List.Sorted.{IsStrictlyIncreasing}
use Rattle.std.specs.Prelude.{Contains, ◌==◌, nat_lt}
use native.Mathlib.Decide.{ℕ_discrete}
use Rattle.jc_workers.specs.Claims.{times, once_below, AreThoseBelow}
use Rattle.jc_workers.specs.Drawing.{cases_in, AreInTurn}
use Rattle.jc_workers.proofs.ClaimLaws.{contains_times, below_once}

pub contained : (l : List ℕ) (y : ℕ) → 0 < times y l → Contains l y
contained [] y h = absurd (omega (arith, h))
contained (x ∷ xs) y h = elim (ℕ_discrete x y) as (λ _. Contains (x ∷ xs) y) [
  | yes e ↦ (0, omega arith, e)
  | no ne ↦ let t = contained xs y (grind (arith, nat_tests)) in (suc t.0, omega (arith, t.1), t.2)
]

pub once_is : (x n : ℕ) → x < n → once_below x n ≡ 1
once_is x n lt = grind (arith, nat_tests)

-- where a number at or above the count was drawn, each below the count was
pub all_below : (l : List ℕ) (n cases y k : ℕ) → AreThoseBelow n l → Contains l y → cases ≤ y → k < cases → Contains l k
all_below l n cases y k once h high low =
    let top : y < n = below_once y n (omega (arith, contains_times l y h, once y)) in
    contained l k (omega (arith, once k, once_is k n (omega (arith, top, high, low))))

-- a list with one number more
module _ (numbers : List ℕ) (n : ℕ) where
  pub has_new : Contains (numbers ++ n ∷ []) n
  has_new = Contains-append_right numbers (n ∷ []) n (0, omega arith, refl)

  pub has_old : (k : ℕ) → Contains numbers k → Contains (numbers ++ n ∷ []) k
  has_old k h = Contains-append_left numbers (n ∷ []) k h

  pub has_one : (k : ℕ) → Contains (numbers ++ n ∷ []) k → Contains numbers k ⊎ (k ≡ n)
  has_one k h = ⊎_elim (λ old. inl old) (λ new. inr (only new)) (Contains-append_cases numbers (n ∷ []) k h)
    where
      only : Contains {X = ℕ} (n ∷ []) k → k ≡ n
      only (zero, lt, e) = sym e
      only (suc j, lt, e) = absurd (omega (arith, lt))

  -- it rises, where the number is above all
  pub rises : IsStrictlyIncreasing numbers → ((y : ℕ) → Contains numbers y → y < n) → IsStrictlyIncreasing (numbers ++ n ∷ [])
  rises up above k lt = ⊎_elim
      (λ inside. omega (
        arith,
        up k inside,
        get_or_append_left numbers (n ∷ []) 0 k (omega (arith, inside)),
        get_or_append_left numbers (n ∷ []) 0 (k + 1) inside,
      ))
      (λ past. last (omega (arith, past, lt, length-append numbers (n ∷ []))))
      (cases_lt (k + 1) (length numbers))
    where
      last : length numbers ≡ k + 1 → get_or (numbers ++ n ∷ []) k 0 < get_or (numbers ++ n ∷ []) (k + 1) 0
      last is = omega (
        arith,
        above (get_or numbers k 0) (k, omega (arith, is), get_or_default numbers k (get_or numbers k 0) 0 (omega (arith, is))),
        get_or_append_left numbers (n ∷ []) 0 k (omega (arith, is)),
        get_or_push numbers n 0 (k + 1) is,
      )

-- ---- of the numbers that were drawn, the cases

test_false : (k n : ℕ) → n ≤ k → nat_lt k n ≡ false
test_false k n le = by_test (nat_lt k n) refl
  where
    by_test : (b : Bool) → nat_lt k n ≡ b → b ≡ false
    by_test false e = refl
    by_test true e = absurd (omega (arith, le, ltb-true k n e))

module _ (cases : ℕ) (numbers : List ℕ) (k : ℕ) where
  -- one case more
  pub cases_more : k < cases → cases_in cases (numbers ++ k ∷ []) ≡ cases_in cases numbers ++ k ∷ []
  cases_more lt =
      filter-append (λ j. nat_lt j cases) numbers (k ∷ []) ∙ ap (λ (b : Bool). cases_in cases numbers ++ cond b (k ∷ []) []) (lt-ltb k cases lt)

  -- a number that is no case
  pub cases_past : cases ≤ k → cases_in cases (numbers ++ k ∷ []) ≡ cases_in cases numbers
  cases_past le =
      filter-append (λ j. nat_lt j cases) numbers (k ∷ []) ∙ ap (λ (b : Bool). cases_in cases numbers ++ cond b (k ∷ []) []) (test_false k cases le)
      ∙ append-nil (cases_in cases numbers)

pub cases_both : (cases : ℕ) (numbers others : List ℕ) → cases_in cases (numbers ++ others) ≡ cases_in cases numbers ++ cases_in cases others
cases_both cases numbers others = filter-append (λ j. nat_lt j cases) numbers others

times_head : (x y n : ℕ) (xs kept : List ℕ) (b : Bool) → nat_lt y n ≡ b → x < n → times x kept ≡ times x xs
    → times x (cond b (y ∷ kept) kept) ≡ cond (y == x) 1 0 + times x xs
times_head x y n xs kept true e lt rest = ap (λ m. cond (y == x) 1 0 + m) rest
times_head x y n xs kept false e lt rest = ⊎_elim
    (λ is. absurd (by_both (lt-ltb y n (omega (arith, is, lt))) e))
    (λ ne. grind (arith, nat_tests))
    (cases_eq y x)
  where
    by_both : nat_lt y n ≡ true → nat_lt y n ≡ false → ⊥
    by_both t f = cc

times_low : (cases x : ℕ) (numbers : List ℕ) → x < cases → times x (cases_in cases numbers) ≡ times x numbers
times_low cases x [] lt = refl
times_low cases x (y ∷ ys) lt = times_head x y cases ys (cases_in cases ys) (nat_lt y cases) refl lt (times_low cases x ys lt)

times_none : (x y n : ℕ) (kept : List ℕ) (b : Bool) → nat_lt y n ≡ b → n ≤ x → times x kept ≡ 0 → times x (cond b (y ∷ kept) kept) ≡ 0
times_none x y n kept true e le rest = let low : y < n = ltb-true y n e in grind (arith, nat_tests)
times_none x y n kept false e le rest = rest

times_high : (cases x : ℕ) (numbers : List ℕ) → cases ≤ x → times x (cases_in cases numbers) ≡ 0
times_high cases x [] le = refl
times_high cases x (y ∷ ys) le = times_none x y cases (cases_in cases ys) (nat_lt y cases) refl le (times_high cases x ys le)

-- where a number at or above the count was drawn, each case was drawn once
pub each_once : (l : List ℕ) (n cases y : ℕ) → AreThoseBelow n l → Contains l y → cases ≤ y → AreThoseBelow cases (cases_in cases l)
each_once l n cases y once h high x =
    let top : y < n = below_once y n (omega (arith, contains_times l y h, once y)) in
    ⊎_elim
    (λ lt. times_low cases x l lt ∙ once x ∙ once_is x n (omega (arith, lt, high, top)) ∙ sym (once_is x cases lt))
    (λ le. times_high cases x l le ∙ sym (ap (λ (b : Bool). cond b 1 0) (test_false x cases le)))
    (cases_lt x cases)

-- ---- numbers that rise, and are those below one

below_all : (xs : List ℕ) (n k : ℕ) → AreThoseBelow n xs → k < length xs → get_or xs k 0 < n
below_all xs n k those lt =
    let x = get_or xs k 0 in
    below_once x n (omega (arith, those x, contains_times xs x (k, lt, get_or_default xs k x 0 lt)))

-- a number below n stands somewhere
place_of : (xs : List ℕ) (n x : ℕ) → AreThoseBelow n xs → x < n → (k : ℕ) × (k < length xs) × (get_or xs k 0 ≡ x)
place_of xs n x those lt =
    let at = contained xs x (omega (arith, those x, once_is x n lt)) in
    (at.0, at.1, sym (get_or_default xs at.0 x 0 at.1) ∙ at.2)

at_least : (xs : List ℕ) → IsStrictlyIncreasing xs → (j : ℕ) → j < length xs → j ≤ get_or xs j 0
at_least xs up zero lt = omega arith
at_least xs up (suc j) lt =
    let step : get_or xs j 0 < get_or xs (j + 1) 0 = up j (omega (arith, lt)) in
    let same : get_or xs (j + 1) 0 ≡ get_or xs (suc j) 0 = ap (λ (i : ℕ). get_or xs i 0) (add-one j) in
    omega (arith, at_least xs up j (omega (arith, lt)), step, same)

module _ (xs : List ℕ) (n : ℕ) (up : IsStrictlyIncreasing xs) (those : AreThoseBelow n xs) where
  next_turn : (j : ℕ) → ((i : ℕ) → i < j → i < length xs → get_or xs i 0 ≡ i) → j < length xs → get_or xs j 0 ≡ j
  next_turn j before within =
      let low = at_least xs up j within in
      let at = place_of xs n j those (omega (arith, low, below_all xs n j those within)) in
      ⊎_elim
      (λ same. ap (λ (m : ℕ). get_or xs m 0) (sym same) ∙ at.2)
      (λ ne. absurd (ne (sym (before at.0 (under at.0 ne (omega (arith, at_least xs up at.0 at.1, at.2))) at.1) ∙ at.2)))
      (cases_eq at.0 j)
    where
      under : (k : ℕ) → (k ≡ j → ⊥) → k ≤ j → k < j
      under k ne le = ⊎_elim (λ e. absurd (ne e)) (λ t. ⊎_elim (λ lt. lt) (λ gt. absurd (omega (arith, gt, le))) t) (cases_order k j)

  turn_below : (j i : ℕ) → i < j → i < length xs → get_or xs i 0 ≡ i
  turn_below zero i lt within = absurd (omega (arith, lt))
  turn_below (suc j) i lt within = by_place (turn_below j) (cases_lt i j)
    where
      by_place : ((i : ℕ) → i < j → i < length xs → get_or xs i 0 ≡ i) → (i < j) ⊎ (j ≤ i) → get_or xs i 0 ≡ i
      by_place before (inl low) = before i low within
      by_place before (inr high) = let is : j ≡ i = omega (arith, high, lt) in
          ap (λ (m : ℕ). get_or xs m 0) (sym is) ∙ next_turn j before (omega (arith, is, within)) ∙ is

  pub in_turn : AreInTurn xs
  in_turn j lt = turn_below (suc j) j (omega arith) lt

-- as many as there are
pub length_turn : (xs : List ℕ) (n : ℕ) → AreInTurn xs → AreThoseBelow n xs → length xs ≡ n
length_turn xs n turn those = ⊎_elim (λ e. e) (λ t. ⊎_elim (λ lt. absurd (fewer lt)) (λ gt. absurd (more gt)) t) (cases_order (length xs) n)
  where
    fewer : length xs < n → ⊥
    fewer lt = let at = place_of xs n (length xs) those lt in omega (arith, turn at.0 at.1, at.2, at.1)

    more : n < length xs → ⊥
    more lt = omega (arith, turn n lt, below_all xs n n those lt)
