-- Reads of lists.
use Rattle.std.proofs.Common.{◌≡◌, ℕ, zero, suc, ◌<◌, ◌≤◌, List, [], ◌∷◌, Some, None, length, map, refl, arith, slice_get, slice_index_or}

pub got : {X : Type 0} (xs : List X) (i : ℕ) (d : X) → i < length xs → slice_get xs i ≡ Some (slice_index_or xs i d)
got [] i d less = absurd (omega arith)
got (x ∷ xs) zero d less = refl
got (x ∷ xs) (suc i) d less = got xs i d (omega arith)

pub past : {X : Type 0} (xs : List X) (i : ℕ) → length xs ≤ i → slice_get xs i ≡ None
past [] i most = refl
past (x ∷ xs) zero most = absurd (omega arith)
past (x ∷ xs) (suc i) most = past xs i (omega arith)

pub got_mapped : {X Y : Type 0} (f : X → Y) (xs : List X) (i : ℕ) (d : X) → i < length xs → slice_get (map f xs) i ≡ Some (f (slice_index_or xs i d))
got_mapped f [] i d less = absurd (omega arith)
got_mapped f (x ∷ xs) zero d less = refl
got_mapped f (x ∷ xs) (suc i) d less = got_mapped f xs i d (omega arith)
