-- What stands in lists that are made of others.
use Rattle.std.proofs.Common.{◌≡◌, ⊎_elim, ℕ, zero, suc, ◌+◌, List, [], ◌∷◌, Some, refl, sym, subst, arith}
use Rattle.std.specs.Prelude.{slice_get, Contains}
use Rattle.std.proofs.lemmas.List.Elements.{Contains-append_left, Contains-append_right, Contains-append_cases}
use Rattle.jc_bytes.specs.PlainLists.{join_from}
use Rattle.jc_bytes.proofs.BooleanLaws.{none_in}

-- ---- joined lists

pub record IsListed {X Y : Type 0} (f : ℕ → X → List Y) (i : ℕ) (xs : List X) (y : Y) : Type 0 where
  pub place : ℕ
  pub item : X
  pub stands : slice_get xs place ≡ Some item
  pub listed : Contains (f (i + place) item) y

module _ {X Y : Type 0} (f : ℕ → X → List Y) where
  pub listed_from : (i : ℕ) (xs : List X) (y : Y) → Contains (join_from f i xs) y → IsListed f i xs y
  listed_from i [] y c = absurd (none_in y c)
  listed_from i (x ∷ xs) y c =
      ⊎_elim
      (λ front. record { place = 0; item = x; stands = refl; listed = let e : i ≡ i + 0 = omega arith in subst (λ k. Contains (f k x) y) e front })
      (λ rest.
      let more = listed_from (i + 1) xs y rest in
      let e : i + 1 + more.place ≡ i + suc more.place = omega arith in
      record { place = suc more.place; item = more.item; stands = more.stands; listed = subst (λ k. Contains (f k more.item) y) e more.listed })
      (Contains-append_cases (f i x) (join_from f (i + 1) xs) y c)

  pub lists_from : (i : ℕ) (xs : List X) (y : Y) → IsListed f i xs y → Contains (join_from f i xs) y
  lists_from i xs y l = found i xs l.place l.stands l.listed
    where
      found : (i : ℕ) (xs : List X) (k : ℕ) {x : X} → slice_get xs k ≡ Some x → Contains (f (i + k) x) y → Contains (join_from f i xs) y
      found i [] k h c = cc
      found i (z ∷ xs) zero {x = x} h c =
          let same : z ≡ x = cc in
          let e : i + 0 ≡ i = omega arith in
          Contains-append_left (f i z) (join_from f (i + 1) xs) y (subst (λ w. Contains (f i w) y) (sym same) (subst (λ k. Contains (f k x) y) e c))
      found i (z ∷ xs) (suc k) {x = x} h c =
          let e : i + suc k ≡ i + 1 + k = omega arith in
          Contains-append_right (f i z) (join_from f (i + 1) xs) y (found (i + 1) xs k h (subst (λ k. Contains (f k x) y) e c))
