-- Lists that are put in order: they are in order, and no other list of their items is.
use Rattle.std.proofs.Common.{◌≡◌, ⊎_elim, ℕ, zero, suc, ◌+◌, ◌<◌, Bool, true, false, cond, not, List, [], ◌∷◌, length, get_or, drop, filter, Contains, refl, sym, ap, ap₂, ◌∙◌, subst, arith, add-one}
use Rattle.std.specs.Prelude.{IsSortedBy}
use Rattle.std.specs.Cmp.{IsStrictWeakOrder}
use Rattle.std.specs.List.Sorted.{ties}
use Rattle.std.proofs.lemmas.Bool.{and_parts, and_from, both_ways, false_from_ne_true, not-true, not_from_false, cond-true}
use Rattle.jc_bytes.proofs.BooleanLaws.{none_in, which_in, first_in, later_in}
use Rattle.jc_report.specs.Order.{IsInOrder, placed, in_order}

module _ {X : Type 0} (lt : X → X → Bool) (o : IsStrictWeakOrder lt) where
  not_below_itself : (x : X) → lt x x ≡ false
  not_below_itself x = false_from_ne_true (lt x x) (λ t. both_ways (lt x x) (o.one_way x x t) t)

  -- ---- no item is less than the one before it

  abbrev Rising : List X → Type 0
  Rising [] = Unit {0}
  Rising (x ∷ []) = Unit {0}
  Rising (x ∷ y ∷ ys) = (lt y x ≡ false) × Rising (y ∷ ys)

  -- the first item of the list isn't less
  abbrev NotBelow : X → List X → Type 0
  NotBelow x [] = Unit {0}
  NotBelow x (y ∷ ys) = lt y x ≡ false

  rising_from : (x : X) (ys : List X) → NotBelow x ys → Rising ys → Rising (x ∷ ys)
  rising_from x [] n h = tt
  rising_from x (y ∷ ys) n h = (n, h)

  rest_rises : (x : X) (ys : List X) → Rising (x ∷ ys) → NotBelow x ys × Rising ys
  rest_rises x [] h = (tt, tt)
  rest_rises x (y ∷ ys) h = (h.0, h.1)

  placed_not_below : (w x : X) (ys : List X) → lt x w ≡ false → NotBelow w ys → NotBelow w (placed lt x ys)
  placed_not_below w x [] f n = f
  placed_not_below w x (y ∷ ys) f n = by (lt y x)
    where
      by : (t : Bool) → NotBelow w (cond t (y ∷ placed lt x ys) (x ∷ y ∷ ys))
      by true = n
      by false = f

  placed_rises : (x : X) (ys : List X) → Rising ys → Rising (placed lt x ys)
  placed_rises x [] h = tt
  placed_rises x (y ∷ ys) h = by (placed_rises x ys (rest_rises y ys h).1) (lt y x) refl
    where
      by : Rising (placed lt x ys) → (t : Bool) → lt y x ≡ t → Rising (cond t (y ∷ placed lt x ys) (x ∷ y ∷ ys))
      by rest true e = rising_from y (placed lt x ys) (placed_not_below y x ys (o.one_way y x e) (rest_rises y ys h).0) rest
      by rest false e = (e, h)

  all_rise : (xs : List X) → Rising (in_order lt xs)
  all_rise [] = tt
  all_rise (x ∷ xs) = placed_rises x (in_order lt xs) (all_rise xs)

  -- the same by places
  rising_at : (xs : List X) (k : ℕ) (d : X) → suc k < length xs → Rising xs → lt (get_or xs (suc k) d) (get_or xs k d) ≡ false
  rising_at [] k d less h = absurd (omega arith)
  rising_at (x ∷ []) k d less h = absurd (omega arith)
  rising_at (x ∷ y ∷ ys) zero d less h = h.0
  rising_at (x ∷ y ∷ ys) (suc k) d less h = rising_at (y ∷ ys) k d (omega arith) h.1

  sorted_from : (xs : List X) → Rising xs → IsSortedBy lt xs
  sorted_from xs h k d low less =
      let e : k + 1 ≡ suc k = add-one k in
      subst (λ n. lt (get_or xs n d) (get_or xs k d) ≡ false) (sym e) (rising_at xs k d (subst (λ n. n < length xs) e less) h)

  rising_of : (xs : List X) → IsSortedBy lt xs → Rising xs
  rising_of [] s = tt
  rising_of (x ∷ []) s = tt
  rising_of (x ∷ y ∷ ys) s = (s 0 x (omega arith) (omega arith), rising_of (y ∷ ys) later)
    where
      later : IsSortedBy lt (y ∷ ys)
      later k d low less =
          let e : suc k + 1 ≡ suc (k + 1) = omega arith in
          subst (λ n. lt (get_or (x ∷ y ∷ ys) n d) (get_or (y ∷ ys) k d) ≡ false) e (s (suc k) d (omega arith) (omega (arith, less)))

  -- ---- items that tie

  -- two items that tie with a third tie
  tied : (w x y : X) → ties lt w x ≡ true → ties lt w y ≡ true → lt y x ≡ false
  tied w x y p q =
      let a = and_parts (not (lt w x)) (not (lt x w)) p in
      let b = and_parts (not (lt w y)) (not (lt y w)) q in
      o.chain y w x (not-true (lt y w) b.1) (not-true (lt w x) a.0)

  ties_itself : (x : X) → ties lt x x ≡ true
  ties_itself x = and_from (not (lt x x)) (not (lt x x)) (not_from_false (lt x x) (not_below_itself x)) (not_from_false (lt x x) (not_below_itself x))

  swapped : (p q : Bool) (x y : X) (rest : List X) → (p ≡ true → q ≡ true → ⊥)
      → cond q (y ∷ cond p (x ∷ rest) rest) (cond p (x ∷ rest) rest) ≡ cond p (x ∷ cond q (y ∷ rest) rest) (cond q (y ∷ rest) rest)
  swapped true true x y rest apart = absurd (apart refl refl)
  swapped true false x y rest apart = refl
  swapped false true x y rest apart = refl
  swapped false false x y rest apart = refl

  placed_stable : (w x : X) (ys : List X) → filter (ties lt w) (placed lt x ys) ≡ filter (ties lt w) (x ∷ ys)
  placed_stable w x [] = refl
  placed_stable w x (y ∷ ys) = by (placed_stable w x ys) (lt y x) refl
    where
      by : filter (ties lt w) (placed lt x ys) ≡ filter (ties lt w) (x ∷ ys) → (t : Bool) → lt y x ≡ t
          → filter (ties lt w) (cond t (y ∷ placed lt x ys) (x ∷ y ∷ ys)) ≡ filter (ties lt w) (x ∷ y ∷ ys)
      by again true e =
          ap (λ l. cond (ties lt w y) (y ∷ l) l) again
          ∙ swapped (ties lt w x) (ties lt w y) x y (filter (ties lt w) ys) (λ p q. both_ways (lt y x) (tied w x y p q) e)
      by again false e = refl

  all_stable : (xs : List X) (w : X) → filter (ties lt w) (in_order lt xs) ≡ filter (ties lt w) xs
  all_stable [] w = refl
  all_stable (x ∷ xs) w = placed_stable w x (in_order lt xs) ∙ ap (λ l. cond (ties lt w x) (x ∷ l) l) (all_stable xs w)

  -- ---- in order

  pub put_in_order : (xs : List X) → IsInOrder lt xs (in_order lt xs)
  put_in_order xs = record { sorted = sorted_from (in_order lt xs) (all_rise xs); stable = all_stable xs }

  -- ---- one list

  least : (x : X) (ys : List X) (y : X) → Rising (x ∷ ys) → Contains ys y → lt y x ≡ false
  least x [] y h c = absurd (none_in y c)
  least x (z ∷ zs) y h c =
      ⊎_elim
      (λ same. subst (λ w. lt w x ≡ false) same h.0)
      (λ later. o.chain y z x (least z zs y h.1 later) h.0)
      (which_in z zs y c)

  least_of_all : (x : X) (ys : List X) (y : X) → Rising (x ∷ ys) → Contains (x ∷ ys) y → lt y x ≡ false
  least_of_all x ys y h c =
      ⊎_elim
      (λ same. subst (λ w. lt w x ≡ false) same (not_below_itself x))
      (λ later. least x ys y h later)
      (which_in x ys y c)

  filtered : (p : X → Bool) (xs : List X) (y : X) → Contains (filter p xs) y → Contains xs y
  filtered p [] y c = c
  filtered p (x ∷ xs) y c = by (filtered p xs y) (p x) c
    where
      by : (Contains (filter p xs) y → Contains xs y) → (t : Bool) → Contains (cond t (x ∷ filter p xs) (filter p xs)) y → Contains (x ∷ xs) y
      by behind true c =
          ⊎_elim
          (λ same. subst (λ w. Contains (w ∷ xs) y) (sym same) (first_in y xs))
          (λ later. later_in x xs y (behind later))
          (which_in x (filter p xs) y c)
      by behind false c = later_in x xs y (behind c)

  kept : (w x : X) (xs : List X) → ties lt w x ≡ true → filter (ties lt w) (x ∷ xs) ≡ x ∷ filter (ties lt w) xs
  kept w x xs t = cond-true (ties lt w x) (x ∷ filter (ties lt w) xs) (filter (ties lt w) xs) t

  first_is : {x y : X} {xs ys : List X} → x ∷ xs ≡ y ∷ ys → x ≡ y
  first_is {x = x} e = ap (λ l. get_or l 0 x) e

  rest_is : {x y : X} {xs ys : List X} → x ∷ xs ≡ y ∷ ys → xs ≡ ys
  rest_is e = ap (λ l. drop 1 l) e

  nothing_is : {y : X} {ys : List X} → ◌≡◌ {A = List X} ([]) (y ∷ ys) → ⊥
  nothing_is e = omega (arith, ap length e)

  abbrev SameTies : List X → List X → Type 0
  SameTies xs ys = (w : X) → filter (ties lt w) xs ≡ filter (ties lt w) ys

  stands_in : (x : X) (xs ys : List X) → SameTies (x ∷ xs) ys → Contains ys x
  stands_in x xs ys same =
      filtered (ties lt x) ys x (subst (λ l. Contains l x) (sym (kept x x xs (ties_itself x)) ∙ same x) (first_in x (filter (ties lt x) xs)))

  same_order : (xs ys : List X) → Rising xs → Rising ys → SameTies xs ys → xs ≡ ys
  same_order [] [] h g same = refl
  same_order [] (y ∷ ys) h g same = absurd (nothing_is (same y ∙ kept y y ys (ties_itself y)))
  same_order (x ∷ xs) [] h g same = absurd (nothing_is (sym (same x) ∙ kept x x xs (ties_itself x)))
  same_order (x ∷ xs) (y ∷ ys) h g same =
      let below = least_of_all y ys x g (stands_in x xs (y ∷ ys) same) in
      let above = least_of_all x xs y h (stands_in y ys (x ∷ xs) (λ w. sym (same w))) in
      let tie : ties lt x y ≡ true = and_from (not (lt x y)) (not (lt y x)) (not_from_false (lt x y) below) (not_from_false (lt y x) above) in
      let first : x ≡ y = first_is (sym (kept x x xs (ties_itself x)) ∙ same x ∙ kept x y ys tie) in
      ap₂ (λ z zs. z ∷ zs) first (same_order xs ys (rest_rises x xs h).1 (rest_rises y ys g).1 (rest_same first))
    where
      without : (t : Bool) (p q : List X) → cond t (y ∷ p) p ≡ cond t (y ∷ q) q → p ≡ q
      without true p q e = rest_is e
      without false p q e = e

      rest_same : x ≡ y → SameTies xs ys
      rest_same first w =
          without (ties lt w y) (filter (ties lt w) xs) (filter (ties lt w) ys)
          (subst (λ z. cond (ties lt w z) (z ∷ filter (ties lt w) xs) (filter (ties lt w) xs) ≡ cond (ties lt w y) (y ∷ filter (ties lt w) ys) (filter (ties lt w) ys)) first (same w))

  pub one_order : (old new : List X) → IsInOrder lt old new → new ≡ in_order lt old
  one_order old new is =
      same_order new (in_order lt old) (rising_of new is.sorted) (all_rise old) (λ w. is.stable w ∙ sym (all_stable old w))
