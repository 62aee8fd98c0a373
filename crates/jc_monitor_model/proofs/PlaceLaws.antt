-- The place of a lock in the list, and what becomes of the list where the lock is taken or given back there.
use Rattle.std.proofs.Common.{◌≡◌, ℕ, zero, suc, ◌<◌, Bool, true, false, cond, List, [], ◌∷◌, ◌++◌, length, take, drop, Some, ap, ◌∙◌, arith}
use Rattle.std.specs.Prelude.{find, slice_set, slice_index_or}
use Rattle.jc_monitor_model.specs.Locks.{Lock, Held, is_of_lock, with_count, without}

-- the first item that passes stands there
abbrev pub IsFirst : {X : Type 0} → (X → Bool) → List X → ℕ → Type 0
IsFirst p [] i = ⊥
IsFirst p (x ∷ xs) zero = p x ≡ true
IsFirst p (x ∷ xs) (suc i) = (p x ≡ false) × IsFirst p xs i

pub first_found : {X : Type 0} (p : X → Bool) (xs : List X) (i : ℕ) (d : X) → IsFirst p xs i → find p xs ≡ Some (slice_index_or xs i d)
first_found p [] i d first = absurd first
first_found p (x ∷ xs) zero d first = ap (λ z. cond z (Some x) (find p xs)) first
first_found p (x ∷ xs) (suc i) d first = ap (λ z. cond z (Some x) (find p xs)) first.0 ∙ first_found p xs i d first.1

pub first_within : {X : Type 0} (p : X → Bool) (xs : List X) (i : ℕ) → IsFirst p xs i → i < length xs
first_within p [] i first = absurd first
first_within p (x ∷ xs) zero first = omega arith
first_within p (x ∷ xs) (suc i) first = let rest = first_within p xs i first.1 in omega (arith, rest)

pub with_count_at : (lock : Lock) (n : ℕ) (held : List Held) (i : ℕ) (d : Held) → IsFirst (is_of_lock lock) held i
    → with_count lock n held ≡ slice_set held i (record (slice_index_or held i d) { count = n })
with_count_at lock n [] i d first = absurd first
with_count_at lock n (h ∷ held) zero d first = ap (λ z. cond z (record h { count = n } ∷ held) (h ∷ with_count lock n held)) first
with_count_at lock n (h ∷ held) (suc i) d first =
    ap (λ z. cond z (record h { count = n } ∷ held) (h ∷ with_count lock n held)) first.0
    ∙ ap (λ l. h ∷ l) (with_count_at lock n held i d first.1)

-- The items behind it move down.
pub without_at : (lock : Lock) (held : List Held) (i : ℕ) → IsFirst (is_of_lock lock) held i → without lock held ≡ take i held ++ drop (suc i) held
without_at lock [] i first = absurd first
without_at lock (h ∷ held) zero first = ap (λ z. cond z held (h ∷ without lock held)) first
without_at lock (h ∷ held) (suc i) first =
    ap (λ z. cond z held (h ∷ without lock held)) first.0 ∙ ap (λ l. h ∷ l) (without_at lock held i first.1)
