-- The first item of a list that passes a test.
use Rattle.std.proofs.Common.{◌≡◌, ⊎_elim, ℕ, zero, suc, ◌+◌, ◌<◌, Bool, true, false, not, ◌||◌, cond, List, [], ◌∷◌, ◌++◌, length, map, Option, Some, None, option_map, nat_lt, refl, sym, ap, ◌∙◌, arith}
use Rattle.std.specs.Prelude.{slice_get, position}
use Rattle.std.specs.List.{position_or_len, list_any}
use Rattle.std.proofs.lemmas.Bool.{lt-ltb, le-ltb, cond-true, cond-false, cases_lt}
use Rattle.std.proofs.lemmas.Option.{same_Some, none-some}

-- by recursion
abbrev pub place : {X : Type 0} → (X → Bool) → List X → Option ℕ
place p [] = None
place p (x ∷ xs) = cond (p x) (Some 0) (option_map suc (place p xs))

module _ {X : Type 0} (p : X → Bool) where
  length_cons : (x : X) (xs : List X) (b : Bool) → p x ≡ b → position_or_len p (x ∷ xs) ≡ cond b 0 (suc (position_or_len p xs))
  length_cons x xs true e = ap (λ b. cond (not b) (1 + position_or_len p xs) 0) e
  length_cons x xs false e = ap (λ b. cond (not b) (1 + position_or_len p xs) 0) e ∙ omega arith

  next_found : (n m : ℕ) → cond (nat_lt (suc n) (suc m)) (Some (suc n)) None ≡ option_map suc (cond (nat_lt n m) (Some n) None)
  next_found n m = ⊎_elim
      (λ lt. cond-true (nat_lt (suc n) (suc m)) (Some (suc n)) None (lt-ltb (suc n) (suc m) (omega arith))
      ∙ sym (ap (option_map suc) (cond-true (nat_lt n m) (Some n) None (lt-ltb n m lt))))
      (λ le. cond-false (nat_lt (suc n) (suc m)) (Some (suc n)) None (le-ltb (suc n) (suc m) (omega arith))
      ∙ sym (ap (option_map suc) (cond-false (nat_lt n m) (Some n) None (le-ltb n m le))))
      (cases_lt n m)

  pub position_place : (xs : List X) → position p xs ≡ place p xs
  position_place [] = refl
  position_place (x ∷ xs) = by (position_place xs) (p x) refl
    where
      by : position p xs ≡ place p xs → (b : Bool) → p x ≡ b → position p (x ∷ xs) ≡ cond b (Some 0) (option_map suc (place p xs))
      by go true e =
          ap (λ n. cond (nat_lt n (length (x ∷ xs))) (Some n) None) (length_cons x xs true e)
          ∙ cond-true (nat_lt 0 (length (x ∷ xs))) (Some 0) None (lt-ltb 0 (length (x ∷ xs)) (omega arith))
      by go false e =
          ap (λ n. cond (nat_lt n (length (x ∷ xs))) (Some n) None) (length_cons x xs false e) ∙ next_found (position_or_len p xs) (length xs)
          ∙ ap (option_map suc) go

  -- what stands there
  pub place_there : (xs : List X) (k : ℕ) → place p xs ≡ Some k → (x : X) × (slice_get xs k ≡ Some x) × (p x ≡ true)
  place_there [] k e = absurd (none-some k e)
  place_there (x ∷ xs) k e = by (λ j. place_there xs j) (p x) refl e
    where
      later : (o : Option ℕ) (k : ℕ) → option_map suc o ≡ Some k → (j : ℕ) × (o ≡ Some j) × (k ≡ suc j)
      later None k e = absurd (none-some k e)
      later (Some j) k e = (j, refl, sym (same_Some (suc j) k e))

      by : ((j : ℕ) → place p xs ≡ Some j → (y : X) × (slice_get xs j ≡ Some y) × (p y ≡ true)) → (b : Bool) → p x ≡ b
          → cond b (Some 0) (option_map suc (place p xs)) ≡ Some k → (y : X) × (slice_get (x ∷ xs) k ≡ Some y) × (p y ≡ true)
      by go true q e = (x, ap (slice_get (x ∷ xs)) (sym (same_Some 0 k e)), q)
      by go false q e =
          let l = later (place p xs) k e in
          let h = go l.0 l.1 in
          (h.0, ap (slice_get (x ∷ xs)) l.2 ∙ h.1, h.2)

  -- behind a list
  pub place_before : (xs ys : List X) (k : ℕ) → place p xs ≡ Some k → place p (xs ++ ys) ≡ Some k
  place_before [] ys k e = absurd (none-some k e)
  place_before (x ∷ xs) ys k e = by (λ j. place_before xs ys j) (p x) e
    where
      later : (o u : Option ℕ) → ((j : ℕ) → o ≡ Some j → u ≡ Some j) → option_map suc o ≡ Some k → option_map suc u ≡ Some k
      later None u h e = absurd (none-some k e)
      later (Some j) u h e = ap (option_map suc) (h j refl) ∙ e

      by : ((j : ℕ) → place p xs ≡ Some j → place p (xs ++ ys) ≡ Some j) → (b : Bool) → cond b (Some 0) (option_map suc (place p xs)) ≡ Some k
          → cond b (Some 0) (option_map suc (place p (xs ++ ys))) ≡ Some k
      by go true e = e
      by go false e = later (place p xs) (place p (xs ++ ys)) go e

  pub place_last : (xs : List X) (y : X) → place p xs ≡ None → place p (xs ++ y ∷ []) ≡ cond (p y) (Some (length xs)) None
  place_last [] y e = refl
  place_last (x ∷ xs) y e = by (place_last xs y) (p x) e
    where
      none : (o : Option ℕ) → option_map suc o ≡ None → o ≡ None
      none None e = refl
      none (Some j) e = absurd (none-some (suc j) (sym e))

      up : (b : Bool) (n : ℕ) → option_map suc (cond b (Some n) None) ≡ cond b (Some (suc n)) None
      up true n = refl
      up false n = refl

      by : (place p xs ≡ None → place p (xs ++ y ∷ []) ≡ cond (p y) (Some (length xs)) None) → (b : Bool)
          → cond b (Some 0) (option_map suc (place p xs)) ≡ None
          → cond b (Some 0) (option_map suc (place p (xs ++ y ∷ []))) ≡ cond (p y) (Some (length (x ∷ xs))) None
      by go true e = absurd (none-some 0 (sym e))
      by go false e = ap (option_map suc) (go (none (place p xs) e)) ∙ up (p y) (length xs)

  pub any_at : (xs : List X) (k : ℕ) (x : X) → slice_get xs k ≡ Some x → p x ≡ true → list_any p xs ≡ true
  any_at [] k x e h = cc
  any_at (y ∷ xs) zero x e h = let same : y ≡ x = cc in ap (λ b. b || list_any p xs) (ap p same ∙ h)
  any_at (y ∷ xs) (suc k) x e h = by (p y) (any_at xs k x e h)
    where
      by : (b : Bool) → list_any p xs ≡ true → (b || list_any p xs) ≡ true
      by true h = refl
      by false h = h

  pub none_at : (xs : List X) → ((k : ℕ) (x : X) → slice_get xs k ≡ Some x → p x ≡ false) → list_any p xs ≡ false
  none_at [] h = refl
  none_at (y ∷ xs) h = ap (λ b. b || list_any p xs) (h 0 y refl) ∙ none_at xs (λ k x e. h (suc k) x e)

-- the test of what a function gives
pub place-map : {X Y : Type 0} (g : X → Y) (q : Y → Bool) (xs : List X) → place (λ x. q (g x)) xs ≡ place q (map g xs)
place-map g q [] = refl
place-map g q (x ∷ xs) = ap (λ o. cond (q (g x)) (Some 0) (option_map suc o)) (place-map g q xs)

-- where none passes
pub place_none : {X : Type 0} (p : X → Bool) (xs : List X) → ((k : ℕ) (x : X) → slice_get xs k ≡ Some x → p x ≡ false) → place p xs ≡ None
place_none p [] h = refl
place_none p (x ∷ xs) h = ap (λ b. cond b (Some 0) (option_map suc (place p xs))) (h 0 x refl) ∙ ap (option_map suc) (place_none p xs (λ k y e. h (suc k) y e))

-- the item that passes, where none before it does
pub place_is : {X : Type 0} (p : X → Bool) (xs : List X) (k : ℕ) (x : X) → slice_get xs k ≡ Some x → p x ≡ true
    → ((j : ℕ) (y : X) → j < k → slice_get xs j ≡ Some y → p y ≡ false) → place p xs ≡ Some k
place_is p [] k x e h before = absurd (none-some x e)
place_is p (y ∷ xs) zero x e h before = ap (λ b. cond b (Some 0) (option_map suc (place p xs))) (ap p (same_Some y x e) ∙ h)
place_is p (y ∷ xs) (suc k) x e h before =
    ap (λ b. cond b (Some 0) (option_map suc (place p xs))) (before 0 y (omega arith) refl)
    ∙ ap (option_map suc) (place_is p xs k x e h (λ j z lt q. before (suc j) z (omega arith) q))
