-- Behind each long in a local variable stands an empty one: so it is where a method begins, and each store keeps it so.
use Rattle.std.proofs.Common.{◌≡◌, ◌⊎◌, inl, inr, ⊎_elim, ℕ, zero, suc, ◌+◌, ◌-◌, ◌<◌, ℤ, Bool, true, false, cond, List, [], ◌∷◌, ◌++◌, length, replicate, Option, Some, None, refl, sym, ◌∙◌, ap, subst, arith, append_assoc, add-one, slice_set, slice_index_or}
use Rattle.std.specs.Prelude.{slice_get}
use Rattle.std.proofs.lemmas.Bool.{false≢true}
use Rattle.std.proofs.lemmas.Option.{same_Some}
use Rattle.jc_bytes.proofs.OptionLaws.{none_some}
use Rattle.jc_machine_model.specs.Values.{Value, int, is_pair}
use Rattle.jc_machine_model.specs.Locals.{is_pair_there, clear_before, put_local}
use Rattle.jc_machine_model.specs.Calls.{spread_value, spread_values, locals_for}
use Rattle.jc_machine_model.specs.Fits.{KeepsPairs}

-- ---- lists

next_at : {X : Type 0} (x : X) (xs : List X) (k : ℕ) → slice_get (x ∷ xs) (k + 1) ≡ slice_get xs k
next_at x xs k = ap (λ j. slice_get (x ∷ xs) j) (add-one k)

pub set_at : {X : Type 0} (xs : List X) (i k : ℕ) (y : X) → ((k ≡ i) × (slice_get (slice_set xs i y) k ≡ Some y))
    ⊎ (slice_get (slice_set xs i y) k ≡ slice_get xs k)
set_at [] i k y = inr refl
set_at (x ∷ xs) zero zero y = inl (refl, refl)
set_at (x ∷ xs) zero (suc k) y = inr refl
set_at (x ∷ xs) (suc i) zero y = inr refl
set_at (x ∷ xs) (suc i) (suc k) y = ⊎_elim (λ p. inl (ap suc p.0, p.1)) (λ p. inr p) (set_at xs i k y)

pub set_here : {X : Type 0} (xs : List X) (k : ℕ) (y : X) → k < length xs → slice_get (slice_set xs k y) k ≡ Some y
set_here [] k y lt = absurd (omega (arith, lt))
set_here (x ∷ xs) zero y lt = refl
set_here (x ∷ xs) (suc k) y lt = set_here xs k y (omega (arith, lt))

pub set_length : {X : Type 0} (xs : List X) (i : ℕ) (y : X) → length (slice_set xs i y) ≡ length xs
set_length [] i y = refl
set_length (x ∷ xs) zero y = refl
set_length (x ∷ xs) (suc i) y = ap suc (set_length xs i y)

read : (locals : List (Option Value)) (k : ℕ) (l : Option Value) → slice_get locals k ≡ Some l → slice_index_or locals k None ≡ l
read [] k l e = absurd (none_some e)
read (m ∷ locals) zero l e = same_Some m l e
read (m ∷ locals) (suc k) l e = read locals k l e

empty_full : {X : Type 0} {x : X} → Some None ≡ Some (Some x) → ⊥
empty_full {x = x} e = none_some (same_Some None (Some x) e)

-- ---- where a method begins

-- one local variable more in front
pairs_behind : (l : Option Value) (locals : List (Option Value)) → KeepsPairs locals
    → ((v : Value) → l ≡ Some v → is_pair v ≡ true → slice_get locals 0 ≡ Some None) → KeepsPairs (l ∷ locals)
pairs_behind l locals h first zero v e p = next_at l locals 0 ∙ first v (same_Some l (Some v) e) p
pairs_behind l locals h first (suc k) v e p = next_at l locals (suc k) ∙ ap (λ j. slice_get locals j) (sym (add-one k)) ∙ h k v e p

pairs_spread : (v : Value) (locals : List (Option Value)) → KeepsPairs locals → KeepsPairs (spread_value v ++ locals)
pairs_spread v locals h = by (is_pair v) refl
  where
    by : (b : Bool) → is_pair v ≡ b → KeepsPairs (cond b (Some v ∷ None ∷ []) (Some v ∷ []) ++ locals)
    by true q = pairs_behind (Some v) (None ∷ locals) (pairs_behind None locals h (λ w f p. absurd (none_some f))) (λ w f p. refl)
    by false q = pairs_behind (Some v) locals h (λ w f p. absurd (false≢true (sym q ∙ ap is_pair (same_Some v w f) ∙ p)))

pairs_values : (values : List Value) (locals : List (Option Value)) → KeepsPairs locals → KeepsPairs (spread_values values ++ locals)
pairs_values [] locals h = h
pairs_values (v ∷ values) locals h =
    subst (λ l. KeepsPairs l) (sym (append_assoc (spread_value v) (spread_values values) locals))
    (pairs_spread v (spread_values values ++ locals) (pairs_values values locals h))

pairs_empty : (n : ℕ) → KeepsPairs (replicate n None)
pairs_empty zero k v e p = absurd (none_some e)
pairs_empty (suc n) k v e p = pairs_behind None (replicate n None) (pairs_empty n) (λ w f q. absurd (none_some f)) k v e p

-- the arguments in their slots, and nothing behind
pub begin_pairs : (most : ℕ) (values : List Value) → KeepsPairs (locals_for most values)
begin_pairs most values =
    pairs_values values (replicate (most - length (spread_values values)) None) (pairs_empty (most - length (spread_values values)))

-- ---- a local variable that becomes empty

was : (locals : List (Option Value)) (j k : ℕ) (v : Value) → slice_get (slice_set locals j None) k ≡ Some (Some v) → slice_get locals k ≡ Some (Some v)
was locals j k v e = ⊎_elim (λ p. absurd (empty_full (sym p.1 ∙ e))) (λ q. sym q ∙ e) (set_at locals j k None)

stays_empty : (locals : List (Option Value)) (j k : ℕ) → slice_get locals k ≡ Some None → slice_get (slice_set locals j None) k ≡ Some None
stays_empty locals j k e = ⊎_elim (λ p. p.1) (λ q. q ∙ e) (set_at locals j k None)

is_empty : (locals : List (Option Value)) (j : ℕ) (v : Value) → slice_get (slice_set locals j None) j ≡ Some (Some v) → ⊥
is_empty [] j v e = none_some e
is_empty (l ∷ locals) zero v e = empty_full e
is_empty (l ∷ locals) (suc j) v e = is_empty locals j v e

emptied_pairs : (locals : List (Option Value)) (j : ℕ) → KeepsPairs locals → KeepsPairs (slice_set locals j None)
emptied_pairs locals j h k v e p = stays_empty locals j (k + 1) (h k v (was locals j k v e) p)

cleared_pairs : (locals : List (Option Value)) (k : ℕ) → KeepsPairs locals → KeepsPairs (clear_before k locals)
cleared_pairs locals zero h = h
cleared_pairs locals (suc j) h = by (is_pair_there (slice_index_or locals j None))
  where
    by : (b : Bool) → KeepsPairs (cond b (slice_set locals j None) locals)
    by true = emptied_pairs locals j h
    by false = h

cleared_length : (locals : List (Option Value)) (k : ℕ) → length (clear_before k locals) ≡ length locals
cleared_length locals zero = refl
cleared_length locals (suc j) = by (is_pair_there (slice_index_or locals j None))
  where
    by : (b : Bool) → length (cond b (slice_set locals j None) locals) ≡ length locals
    by true = set_length locals j None
    by false = refl

-- no long begins in front of the local variable that is written
none_before : (locals : List (Option Value)) (k i : ℕ) (v : Value) → i + 1 ≡ k → slice_get (clear_before k locals) i ≡ Some (Some v) → is_pair v ≡ true → ⊥
none_before locals zero i v s e p = absurd (omega (arith, s))
none_before locals (suc j) i v s e p =
    let same : i ≡ j = omega (arith, s) in
    by (is_pair_there (slice_index_or locals j None)) refl (subst (λ x. slice_get (clear_before (suc j) locals) x ≡ Some (Some v)) same e)
  where
    by : (b : Bool) → is_pair_there (slice_index_or locals j None) ≡ b → slice_get (cond b (slice_set locals j None) locals) j ≡ Some (Some v) → ⊥
    by true q g = is_empty locals j v g
    by false q g = false≢true (sym q ∙ ap is_pair_there (read locals j (Some v) g) ∙ p)

-- ---- a local variable that is written

-- where no long begins in front of it, each long but that which is written keeps the empty one behind it
set_pairs : (locals : List (Option Value)) (k : ℕ) (v : Value) → KeepsPairs locals
    → ((i : ℕ) (w : Value) → i + 1 ≡ k → slice_get locals i ≡ Some (Some w) → is_pair w ≡ true → ⊥)
    → (i : ℕ) (w : Value) → slice_get (slice_set locals k (Some v)) i ≡ Some (Some w) → is_pair w ≡ true
    → ((i ≡ k) × (w ≡ v)) ⊎ (slice_get (slice_set locals k (Some v)) (i + 1) ≡ Some None)
set_pairs locals k v h none i w e p =
    ⊎_elim (λ a. inl (a.0, same_Some w v (same_Some (Some w) (Some v) (sym e ∙ a.1)))) (λ a. inr (kept (sym a ∙ e))) (set_at locals k i (Some v))
  where
    kept : slice_get locals i ≡ Some (Some w) → slice_get (slice_set locals k (Some v)) (i + 1) ≡ Some None
    kept g = ⊎_elim (λ b. absurd (none i w b.0 g p)) (λ b. b ∙ h i w g p) (set_at locals k (i + 1) (Some v))

-- a store, of a long into two local variables that are there
pub put_pairs : (locals : List (Option Value)) (k : ℕ) (v : Value) → KeepsPairs locals → (is_pair v ≡ true → k + 1 < length locals)
    → KeepsPairs (put_local k v locals)
put_pairs locals k v h room = by (is_pair v) refl
  where
    written : List (Option Value)
    written = slice_set (clear_before k locals) k (Some v)

    one : (i : ℕ) (w : Value) → slice_get written i ≡ Some (Some w) → is_pair w ≡ true → ((i ≡ k) × (w ≡ v)) ⊎ (slice_get written (i + 1) ≡ Some None)
    one i w e p = set_pairs (clear_before k locals) k v (cleared_pairs locals k h) (none_before locals k) i w e p

    within : is_pair v ≡ true → k + 1 < length written
    within q = subst (λ n. k + 1 < n) (sym (set_length (clear_before k locals) k (Some v) ∙ cleared_length locals k)) (room q)

    by : (b : Bool) → is_pair v ≡ b → KeepsPairs (cond b (slice_set written (k + 1) None) written)
    by true q i w e p =
        ⊎_elim (λ a. subst (λ j. slice_get (slice_set written (k + 1) None) (j + 1) ≡ Some None) (sym a.0) (set_here written (k + 1) None (within q)))
        (λ a. stays_empty written (k + 1) (i + 1) a) (one i w (was written (k + 1) i w e) p)
    by false q i w e p = ⊎_elim (λ a. absurd (false≢true (sym q ∙ ap is_pair (sym a.1) ∙ p))) (λ a. a) (one i w e p)

-- an int that becomes another
pub count_pairs : (locals : List (Option Value)) (k : ℕ) (x y : ℤ) → KeepsPairs locals → slice_index_or locals k None ≡ Some (int y)
    → KeepsPairs (slice_set locals k (Some (int x)))
count_pairs locals k x y h e i w g p =
    ⊎_elim (λ a. absurd (false≢true (ap is_pair (sym a.1) ∙ p))) (λ a. a) (set_pairs locals k (int x) h none i w g p)
  where
    none : (j : ℕ) (u : Value) → j + 1 ≡ k → slice_get locals j ≡ Some (Some u) → is_pair u ≡ true → ⊥
    none j u s f q = none_some (sym (read locals k None (subst (λ m. slice_get locals m ≡ Some None) s (h j u f q))) ∙ e)
