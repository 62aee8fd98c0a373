-- How many items pass a test.
use Rattle.std.proofs.Common.{◌≡◌, ⊎_elim, ◌+◌, ◌<◌, ◌≤◌, Bool, true, false, List, [], ◌∷◌, ◌++◌, refl, sym, ap, ◌∙◌, subst, arith}
use Rattle.std.specs.Prelude.{Contains}
use Rattle.std.specs.List.{count_by, AllByRecursion}
use Rattle.std.proofs.lemmas.List.Sums.{sum_by-cons, sum_by-append}
use Rattle.jc_bytes.proofs.BooleanLaws.{none_in, which_in}
use Rattle.jc_plan.specs.Entries.{one_if}

-- ---- tests

one_le : (s t : Bool) → (s ≡ true → t ≡ true) → one_if s ≤ one_if t
one_le true t h = subst (λ z. 1 ≤ one_if z) (sym (h refl)) (omega arith)
one_le false t h = omega arith

-- ---- counts

module _ {X : Type 0} where
  pub count_cons : (p : X → Bool) (x : X) (xs : List X) → count_by p (x ∷ xs) ≡ one_if (p x) + count_by p xs
  count_cons p x xs = sum_by-cons (λ y. one_if (p y)) x xs

  pub count_join : (p : X → Bool) (xs ys : List X) → count_by p (xs ++ ys) ≡ count_by p xs + count_by p ys
  count_join p xs ys = sum_by-append (λ y. one_if (p y)) xs ys

  pub count_one : (p : X → Bool) (x : X) → count_by p (x ∷ []) ≡ one_if (p x)
  count_one p x = omega (arith, count_cons p x [])

  pub count_put : (p : X → Bool) (xs : List X) (x : X) → count_by p (xs ++ x ∷ []) ≡ count_by p xs + one_if (p x)
  count_put p xs x = omega (arith, count_join p xs (x ∷ []), count_one p x)

  -- tests that agree on each item
  pub count_agree : (p q : X → Bool) (xs : List X) → AllByRecursion (λ x. p x ≡ q x) xs → count_by p xs ≡ count_by q xs
  count_agree p q [] each = refl
  count_agree p q (x ∷ xs) each = omega (arith, count_cons p x xs, count_cons q x xs, ap one_if each.0, count_agree p q xs each.1)

  -- no item passes
  pub count_none : (p : X → Bool) (xs : List X) → AllByRecursion (λ x. p x ≡ false) xs → count_by p xs ≡ 0
  count_none p [] each = refl
  count_none p (x ∷ xs) each = omega (arith, count_cons p x xs, ap one_if each.0, count_none p xs each.1)

  pub count_le : (p q : X → Bool) (xs : List X) → ((x : X) → p x ≡ true → q x ≡ true) → count_by p xs ≤ count_by q xs
  count_le p q [] h = omega arith
  count_le p q (x ∷ xs) h = omega (arith, count_cons p x xs, count_cons q x xs, one_le (p x) (q x) (h x), count_le p q xs h)

  pub count_lt : (p q : X → Bool) (xs : List X) (x : X) → ((y : X) → p y ≡ true → q y ≡ true) → Contains xs x → p x ≡ false → q x ≡ true → count_by p xs < count_by q xs
  count_lt p q [] x h c none some = absurd (none_in x c)
  count_lt p q (y ∷ xs) x h c none some =
      ⊎_elim
      (λ same.
      let a : one_if (p y) ≡ 0 = ap one_if (ap p same ∙ none) in
      let b : one_if (q y) ≡ 1 = ap one_if (ap q same ∙ some) in
      omega (arith, count_cons p y xs, count_cons q y xs, a, b, count_le p q xs h))
      (λ later. omega (arith, count_cons p y xs, count_cons q y xs, one_le (p y) (q y) (h y), count_lt p q xs x h later none some))
      (which_in y xs x c)

  -- ---- every item

  pub each_mapped : (P Q : X → Type 0) (xs : List X) → ((x : X) → P x → Q x) → AllByRecursion P xs → AllByRecursion Q xs
  each_mapped P Q [] h each = tt
  each_mapped P Q (x ∷ xs) h each = (h x each.0, each_mapped P Q xs h each.1)

  pub each_joined : (P : X → Type 0) (xs ys : List X) → AllByRecursion P xs → AllByRecursion P ys → AllByRecursion P (xs ++ ys)
  each_joined P [] ys a b = b
  each_joined P (x ∷ xs) ys a b = (a.0, each_joined P xs ys a.1 b)
