-- What stands at a place of a list that is made item by item.
use Rattle.std.proofs.Common.{◌≡◌, ℕ, zero, suc, ◌+◌, List, [], ◌∷◌, length, Some, refl, ap, ◌∙◌, arith, zero-add}
use Rattle.std.specs.Prelude.{slice_get, option_map}
use Rattle.jc_bytes.specs.PlainLists.{map_from}

module _ {X Y : Type 0} (f : ℕ → X → Y) where
  pub made_at : (i k : ℕ) (xs : List X) → slice_get (map_from f i xs) k ≡ option_map (f (i + k)) (slice_get xs k)
  made_at i k [] = refl
  made_at i zero (x ∷ xs) = let e : i ≡ i + 0 = omega arith in ap (λ j. Some (f j x)) e
  made_at i (suc k) (x ∷ xs) =
      let e : i + 1 + k ≡ i + suc k = omega arith in
      made_at (i + 1) k xs ∙ ap (λ j. option_map (f j) (slice_get xs k)) e

  pub made_of : (xs : List X) (k : ℕ) (x : X) → slice_get xs k ≡ Some x → slice_get (map_from f 0 xs) k ≡ Some (f k x)
  made_of xs k x h = made_at 0 k xs ∙ ap (option_map (f (0 + k))) h ∙ ap (λ j. Some (f j x)) (zero-add k)

  pub length_made : (i : ℕ) (xs : List X) → length (map_from f i xs) ≡ length xs
  length_made i [] = refl
  length_made i (x ∷ xs) = ap (λ n. suc n) (length_made (i + 1) xs)
