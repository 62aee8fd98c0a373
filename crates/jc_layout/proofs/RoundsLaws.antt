-- The rounds that choose the wide jumps end, and what they lead to is one.
use Rattle.std.proofs.Common.{◌≡◌, ◌⊎◌, inl, inr, ⊎_elim, ℕ, zero, suc, ◌+◌, ◌-◌, ◌≤◌, Bool, true, false, ◌||◌, List, [], ◌∷◌, length, refl, sym, ap, ap₂, ◌∙◌, subst, arith, nat_le}
use Rattle.std.proofs.lemmas.Bool.Decides.{nat_tests}
use Rattle.std.proofs.lemmas.List.{length-replicate}
use Rattle.jc_methods.specs.Widened.{listed}
use Rattle.jc_methods.specs.declared.insn.Insn.{Insn}
use Rattle.jc_layout.specs.Layout.{IsChosen, chosen_list, is_far_by, round, rounds, starts_of, with_far}

-- ---- how many are wide

abbrev pub one_if : Bool → ℕ
one_if true = 1
one_if false = 0

abbrev pub count : List Bool → ℕ
count [] = 0
count (w ∷ wide) = one_if w + count wide

one_few : (w : Bool) → one_if w ≤ 1
one_few true = grind (arith)
one_few false = grind (arith)

pub count_few : (wide : List Bool) → count wide ≤ length wide
count_few [] = grind (arith)
count_few (w ∷ wide) = by (one_few w) (count_few wide)
  where
    by : one_if w ≤ 1 → count wide ≤ length wide → one_if w + count wide ≤ suc (length wide)
    by a b = grind (arith)

-- ---- one round

pub far_length : (starts : List ℕ) (n : ℕ) (code : List Insn) (wide : List Bool) → length wide ≡ length code → length (with_far starts n code wide) ≡ length code
far_length starts n [] wide e = refl
far_length starts n (insn ∷ code) [] e = e
far_length starts n (insn ∷ code) (w ∷ wide) e = ap suc (far_length starts (suc n) code wide (shorter e))
  where
    shorter : suc (length wide) ≡ suc (length code) → length wide ≡ length code
    shorter h = grind (arith)

pub or_more : (w far : Bool) → one_if w ≤ one_if (w || far)
or_more true far = grind (arith)
or_more false far = grind (arith)

or_same : (w far : Bool) → one_if (w || far) ≤ one_if w → (w || far) ≡ w
or_same true far e = refl
or_same false true e = absurd (grind (arith))
or_same false false e = refl

pub far_more : (starts : List ℕ) (n : ℕ) (code : List Insn) (wide : List Bool) → length wide ≡ length code → count wide ≤ count (with_far starts n code wide)
far_more starts n [] [] e = grind (arith)
far_more starts n [] (w ∷ wide) e = absurd (grind (arith))
far_more starts n (insn ∷ code) [] e = grind (arith)
far_more starts n (insn ∷ code) (w ∷ wide) e = by (or_more w (is_far_by starts n insn)) (far_more starts (suc n) code wide (shorter e))
  where
    shorter : suc (length wide) ≡ suc (length code) → length wide ≡ length code
    shorter h = grind (arith)

    by : one_if w ≤ one_if (w || is_far_by starts n insn) → count wide ≤ count (with_far starts (suc n) code wide)
        → one_if w + count wide ≤ one_if (w || is_far_by starts n insn) + count (with_far starts (suc n) code wide)
    by a b = grind (arith)

-- a round that makes no jump wide changes nothing
pub far_same : (starts : List ℕ) (n : ℕ) (code : List Insn) (wide : List Bool) → length wide ≡ length code → count (with_far starts n code wide) ≤ count wide
    → with_far starts n code wide ≡ wide
far_same starts n [] [] e few = refl
far_same starts n [] (w ∷ wide) e few = absurd (grind (arith))
far_same starts n (insn ∷ code) [] e few = refl
far_same starts n (insn ∷ code) (w ∷ wide) e few =
    ap₂ (λ x xs. x ∷ xs) (or_same w far (head (or_more w far) tail_more few)) (far_same starts (suc n) code wide (shorter e) (tail (or_more w far) tail_more few))
  where
    far : Bool
    far = is_far_by starts n insn

    shorter : suc (length wide) ≡ suc (length code) → length wide ≡ length code
    shorter h = grind (arith)

    tail_more : count wide ≤ count (with_far starts (suc n) code wide)
    tail_more = far_more starts (suc n) code wide (shorter e)

    head : one_if w ≤ one_if (w || far) → count wide ≤ count (with_far starts (suc n) code wide)
        → one_if (w || far) + count (with_far starts (suc n) code wide) ≤ one_if w + count wide → one_if (w || far) ≤ one_if w
    head a b c = grind (arith)

    tail : one_if w ≤ one_if (w || far) → count wide ≤ count (with_far starts (suc n) code wide)
        → one_if (w || far) + count (with_far starts (suc n) code wide) ≤ one_if w + count wide → count (with_far starts (suc n) code wide) ≤ count wide
    tail a b c = grind (arith)

-- ---- all rounds

module _ (code : List Insn) where
  pub rounds_length : (k : ℕ) → length (rounds code k) ≡ length code
  rounds_length zero = length-replicate (length code) false
  rounds_length (suc k) = far_length (starts_of (listed (rounds code k)) code) 0 code (rounds code k) (rounds_length k)

  abbrev IsStill : List Bool → Type 0
  IsStill wide = round code wide ≡ wide

  -- so many rounds lead to where they stand still, or have made as many jumps wide
  still_or_wide : (k : ℕ) → IsStill (rounds code k) ⊎ (k ≤ count (rounds code k))
  still_or_wide zero = inr (grind (arith))
  still_or_wide (suc k) = ⊎_elim (λ still. inl (ap (round code) still)) (λ many. by many (nat_le (count (rounds code (suc k))) (count (rounds code k))) refl) (still_or_wide k)
    where
      still_at : count (rounds code (suc k)) ≤ count (rounds code k) → IsStill (rounds code k)
      still_at few = far_same (starts_of (listed (rounds code k)) code) 0 code (rounds code k) (rounds_length k) few

      below : (a b : ℕ) → nat_le a b ≡ true → a ≤ b
      below a b e = grind (arith, nat_tests)

      above : (a b : ℕ) → k ≤ b → nat_le a b ≡ false → suc k ≤ a
      above a b many e = grind (arith, nat_tests)

      by : k ≤ count (rounds code k) → (t : Bool) → nat_le (count (rounds code (suc k))) (count (rounds code k)) ≡ t
          → IsStill (rounds code (suc k)) ⊎ (suc k ≤ count (rounds code (suc k)))
      by many true e = inl (ap (round code) (still_at (below (count (rounds code (suc k))) (count (rounds code k)) e)))
      by many false e = inr (above (count (rounds code (suc k))) (count (rounds code k)) many e)

  all_wide_still : length code ≤ count (rounds code (length code)) → IsStill (rounds code (length code))
  all_wide_still many =
      far_same (starts_of (listed (rounds code (length code))) code) 0 code (rounds code (length code)) (rounds_length (length code))
      (by (count_few (rounds code (suc (length code)))) (rounds_length (suc (length code))))
    where
      by : count (rounds code (suc (length code))) ≤ length (rounds code (suc (length code))) → length (rounds code (suc (length code))) ≡ length code
          → count (rounds code (suc (length code))) ≤ count (rounds code (length code))
      by a b = grind (arith)

  -- as many rounds as there are instructions lead to where they stand still
  pub chosen_is : IsChosen code (chosen_list code)
  unfolding chosen_list
  chosen_is = record { count = length code; reached = refl; ended = ⊎_elim (λ still. still) all_wide_still (still_or_wide (length code)) }

  -- ---- one choice

  -- where a round stands still, all later ones do
  stays : (k m : ℕ) → IsStill (rounds code k) → rounds code (m + k) ≡ rounds code k
  stays k zero still = ap (rounds code) (grind (arith))
  stays k (suc m) still = ap (rounds code) {x = suc m + k} {y = suc (m + k)} (grind (arith)) ∙ ap (round code) (stays k m still) ∙ still

  one_by : (a b : List Bool) → (x y : ℕ) → (m : ℕ) → y ≡ m + x → a ≡ rounds code x → IsStill a → b ≡ rounds code y → a ≡ b
  one_by a b x y m e is still other =
      is ∙ sym (stays x m (subst IsStill is still)) ∙ sym (ap (rounds code) e) ∙ sym other

  -- the wide jumps are told by the code
  pub one_chosen : (wide other : List Bool) → IsChosen code wide → IsChosen code other → wide ≡ other
  one_chosen wide other a b = by (nat_le a.count b.count) refl
    where
      more : (x y : ℕ) → nat_le x y ≡ true → (m : ℕ) × (y ≡ m + x)
      more x y e = (y - x, grind (arith, nat_tests))

      less : (x y : ℕ) → nat_le x y ≡ false → (m : ℕ) × (x ≡ m + y)
      less x y e = (x - y, grind (arith, nat_tests))

      by : (t : Bool) → nat_le a.count b.count ≡ t → wide ≡ other
      by true e = one_by wide other a.count b.count (more a.count b.count e).0 (more a.count b.count e).1 a.reached a.ended b.reached
      by false e = sym (one_by other wide b.count a.count (less a.count b.count e).0 (less a.count b.count e).1 b.reached b.ended a.reached)
