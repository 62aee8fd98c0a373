-- The answers to the items of a list, at their places.
use Rattle.std.proofs.Common.{◌≡◌, ℕ, zero, suc, ◌<◌, List, [], ◌∷◌, length, get_or, map, Result, Ok, IfOk, refl, sym, ◌∙◌, ap, subst, arith}
use Rattle.std.specs.List.{AllZip, enumerate_from}
use Rattle.std.proofs.lemmas.List.FromFn.{length-enumerate_from, get_or-enumerate_from}

module _ {X Y : Type 0} (R : X → Y → Type 0) where
  -- an answer is that to the item at its place
  pub zipped_at : (xs : List X) (ys : List Y) (i : ℕ) (y : Y) → AllZip R xs ys → i < length ys → y ≡ get_or ys i y
      → (x : X) × (x ≡ get_or xs i x) × R x y
  zipped_at [] [] i y zip within is = absurd (omega (arith, within))
  zipped_at [] (z ∷ ys) i y zip within is = absurd zip
  zipped_at (x ∷ xs) [] i y zip within is = absurd zip
  zipped_at (x ∷ xs) (z ∷ ys) zero y zip within is = (x, refl, subst (R x) (sym is) zip.0)
  zipped_at (x ∷ xs) (z ∷ ys) (suc i) y zip within is = zipped_at xs ys i y zip.1 (omega (arith, within)) is

  -- what stands at one place of both
  pub zipped_pair : (xs : List X) (ys : List Y) (i : ℕ) (x : X) (y : Y) → AllZip R xs ys → i < length ys → x ≡ get_or xs i x → y ≡ get_or ys i y → R x y
  zipped_pair [] [] i x y zip within x_is y_is = absurd (omega (arith, within))
  zipped_pair [] (z ∷ ys) i x y zip within x_is y_is = absurd zip
  zipped_pair (w ∷ xs) [] i x y zip within x_is y_is = absurd zip
  zipped_pair (w ∷ xs) (z ∷ ys) zero x y zip within x_is y_is = subst (λ (v : X). R v y) (sym x_is) (subst (R w) (sym y_is) zip.0)
  zipped_pair (w ∷ xs) (z ∷ ys) (suc i) x y zip within x_is y_is = zipped_pair xs ys i x y zip.1 (omega (arith, within)) x_is y_is

-- what holds of each answer holds where all are there
pub each_ok : {X Y : Type 0} (E : Type 0) (R : X → Y → Type 0) (xs : List X) (ys : List Y) → AllZip (λ x (u : Result Y E). IfOk u (R x)) xs (map Ok ys) → AllZip R xs ys
each_ok E R [] [] zip = tt
each_ok E R [] (y ∷ ys) zip = absurd zip
each_ok E R (x ∷ xs) [] zip = absurd zip
each_ok E R (x ∷ xs) (y ∷ ys) zip = (zip.0, each_ok E R xs ys zip.1)

-- the answer that an enumeration gives next stands at its place
pub record AtPlace {Y : Type 0} (ys : List Y) (n index : ℕ) (y : Y) : Type 0 where
  pub within : n < length ys
  pub index_is : index ≡ n
  pub at : y ≡ get_or ys n y

pub at_place : {Y : Type 0} (ys : List Y) (n index : ℕ) (y : Y) → n < length (enumerate_from 0 ys)
    → (index, y) ≡ get_or (enumerate_from 0 ys) n (index, y) → AtPlace ys n index y
at_place {Y} ys n index y less is =
    let within : n < length ys = omega (arith, less, length-enumerate_from 0 ys) in
    let item = is ∙ get_or-enumerate_from 0 ys n (index, y) within in
    record { within = within; index_is = omega (arith, ap (λ (p : ℕ × Y). p.0) item); at = ap (λ (p : ℕ × Y). p.1) item }
