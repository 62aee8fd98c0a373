-- The objects in one local variable, instruction by instruction.
use Rattle.std.proofs.Common.{◌≡◌, ◌≢◌, ◌⊎◌, inl, inr, ⊎_elim, ℕ, ◌+◌, ◌<◌, ◌≤◌, Bool, true, false, List, length, get_or, set, Option, Some, None, is_some, MatchBool, refl, sym, ◌∙◌, ap, subst, arith, if◌then◌else◌}
use Rattle.std.proofs.lemmas.Bool.{cases_lt, cases_eq, true≢false}
use Rattle.std.proofs.lemmas.List.{length-set, get_or-set_same, get_or-set_other}
use Rattle.jc_methods.specs.VerificationTypes.{Names}
use Rattle.jc_refs_check.specs.Suits.{class_suits}
use Rattle.jc_refs_check.specs.Classes.{name_at}
use Rattle.jc_refs_check.specs.Unguarded.{class_before, IsNext, AreNext, IsUnsuited}

-- ---- the next object

pub next_end : (column : List (Option ℕ)) (n m : ℕ) → n ≡ length column → m ≡ length column → IsNext column n m
next_end column n m at is = record {
  from = omega (arith, at, is);
  within = omega (arith, is);
  none = λ k lo hi. absurd (omega (arith, at, is, lo, hi));
  some = λ lt. absurd (omega (arith, is, lt));
}

pub next_back : (column : List (Option ℕ)) (i j n m : ℕ) → j ≡ i + 1 → i < length column → IsNext column j n → m ≡ (if is_some (class_before column i) then i else n) → IsNext column i m
next_back column i j n m step lt next is = by (class_before column i) refl is
  where
    by : (o : Option ℕ) → class_before column i ≡ o → m ≡ (if is_some o then i else n) → IsNext column i m
    by None e q = subst (IsNext column i) (sym q) (record {
      from = let f = next.from in omega (arith, f, step);
      within = next.within;
      none = λ k lo hi. ⊎_elim
          (λ low. next.none k (omega (arith, low, step)) hi)
          (λ high. let same : i ≡ k = omega (arith, lo, high) in ap (λ (x : ℕ). class_before column x) (sym same) ∙ e)
          (cases_lt i k);
      some = next.some;
    })
    by (Some class) e q = subst (IsNext column i) (sym q) (record {
      from = omega arith;
      within = omega (arith, lt);
      none = λ k lo hi. absurd (omega (arith, lo, hi));
      some = λ less. ap is_some e;
    })

pub next_put : (column : List (Option ℕ)) (i j m : ℕ) (next more : List ℕ) → j ≡ i + 1 → i < length column → AreNext column j next → IsNext column i m → more ≡ set next i m
    → AreNext column i more
next_put column i j m next more step lt are here put = record {
  size = ap length put ∙ length-set next i m ∙ are.size;
  each = λ k lo inside. by k lo inside (cases_eq k i);
}
  where
    by : (k : ℕ) → i ≤ k → k < length column → (k ≡ i) ⊎ (k ≢ i) → IsNext column k (get_or more k 0)
    by k lo inside (inl same) =
        let s = are.size in
        subst (λ (x : ℕ). IsNext column k x) (sym (ap (λ (l : List ℕ). get_or l k 0) put ∙ ap (λ (x : ℕ). get_or (set next i m) x 0) same
        ∙ get_or-set_same next i m 0 (omega (arith, s, lt))))
        (subst (λ (x : ℕ). IsNext column x m) (sym same) here)
    by k lo inside (inr other) =
        subst (λ (x : ℕ). IsNext column k x) (sym (ap (λ (l : List ℕ). get_or l k 0) put ∙ get_or-set_other next i k m 0 other))
        (are.each k (⊎_elim (λ low. omega (arith, low, step)) (λ high. let same : k ≡ i = omega (arith, lo, high) in absurd (other same)) (cases_lt i k)) inside)

-- ---- whether an object suits

pub suited_some : (names : Names) (o : Option ℕ) (class want : ℕ) (r : Bool) → o ≡ Some class → r ≡ class_suits (name_at names class) (name_at names want)
    → MatchBool r (IsUnsuited names o want → ⊥) (IsUnsuited names o want)
suited_some names o class want true there is =
    subst (λ (x : Option ℕ). IsUnsuited names x want → ⊥) (sym there) (λ misses. true≢false (is ∙ misses))
suited_some names o class want false there is = subst (λ (x : Option ℕ). IsUnsuited names x want) (sym there) (sym is)

pub suited_none : (names : Names) (o : Option ℕ) (want : ℕ) → o ≡ None → IsUnsuited names o want → ⊥
suited_none names o want there unsuited = let u = subst (λ (x : Option ℕ). IsUnsuited names x want) there unsuited in true≢false (sym u)

pub suited_true : (P : Type 0) (r : Bool) → r ≡ true → MatchBool r (P → ⊥) P → P → ⊥
suited_true P true e suits = suits
suited_true P false e suits = absurd (true≢false (sym e))

-- ---- the first in a range

module _ (names : Names) (column : List (Option ℕ)) (want start end at object : ℕ) (inside : end ≤ length column) (next : IsNext column at object)
    (suited : (k : ℕ) → start ≤ k → k < at → IsUnsuited names (class_before column k) want → ⊥) where
  -- up to the next object all suit
  before_object : (k : ℕ) → start ≤ k → k < object → IsUnsuited names (class_before column k) want → ⊥
  before_object k lo hi = ⊎_elim
      (λ low. suited k lo low)
      (λ high. suited_none names (class_before column k) want (next.none k high hi))
      (cases_lt k at)

  pub suited_on : (IsUnsuited names (class_before column object) want → ⊥) → (k : ℕ) → start ≤ k → k < object + 1 → IsUnsuited names (class_before column k) want → ⊥
  suited_on suits k lo hi = ⊎_elim
      (λ low. before_object k lo low)
      (λ high. let same : object ≡ k = omega (arith, hi, high) in subst (λ (x : ℕ). IsUnsuited names (class_before column x) want → ⊥) same suits)
      (cases_lt k object)
