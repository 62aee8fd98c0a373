-- The first two items of one key are found, or no two have one.
use Rattle.std.proofs.Common.{◌≡◌, ◌⊎◌, inl, inr, ℕ, zero, suc, ◌<◌, ◌≤◌, true, List, length, Option, Some, None, bytes_eq, refl, sym, ◌∙◌, subst, arith}
use Rattle.std.specs.Prelude.{slice_get}
use Rattle.std.proofs.lemmas.Bool.{cases_eq, cases_lt}
use Rattle.std.proofs.lemmas.Option.{none-some, same_Some, slice_get_within}
use Rattle.std.proofs.lemmas.Slice.Eq.{bytes_eq-Decides}
use Rattle.jc_bytes.proofs.ListLaws.{below_or_last}
use Rattle.jc_bytes.specs.Least.{IsLeast}
use Rattle.jc_programs.specs.declared.program.Linked.{Linked}
use Rattle.jc_instrument.proofs.DecidedLaws.{OrNot, true_or_not}
use Rattle.jc_link_programs.specs.Pairs.{HaveOne, name_of, id_of, HaveOneName, HaveOneId, NoPair, IsFirstPair}

-- the least number of which it holds, or none below the bound
least_below : (P : ℕ → Type 0) → ((n : ℕ) → OrNot (P n)) → (most : ℕ) → ((n : ℕ) × (n < most) × IsLeast P n) ⊎ ((n : ℕ) → n < most → P n → ⊥)
least_below P decide zero = inr (λ n less p. omega (arith, less))
least_below P decide (suc most) = by (least_below P decide most) (decide most)
  where
    none : ((n : ℕ) → n < most → P n → ⊥) → (P most → ⊥) → (n : ℕ) → P n → (n < most) ⊎ (n ≡ most) → ⊥
    none before not_here n p (inl less) = before n less p
    none before not_here n p (inr last) = not_here (subst P last p)

    by : ((n : ℕ) × (n < most) × IsLeast P n) ⊎ ((n : ℕ) → n < most → P n → ⊥) → OrNot (P most)
        → ((n : ℕ) × (n < suc most) × IsLeast P n) ⊎ ((n : ℕ) → n < suc most → P n → ⊥)
    by (inl found) here = let less = found.1 in inl (found.0, omega (arith, less), found.2)
    by (inr before) (inl here) = inl (most, omega arith, record { there = here; first = before })
    by (inr before) (inr not_here) = inr (λ n less p. none before not_here n p (below_or_last most n (omega (arith, less))))

module _ (Same : ℕ → ℕ → Type 0) (decide : (a b : ℕ) → OrNot (Same a b)) (most : ℕ) (within : (a b : ℕ) → Same a b → b < most) where
  abbrev With : ℕ → ℕ → Type 0
  With b a = (a < b) × Same a b

  with_or_not : (b a : ℕ) → OrNot (With b a)
  with_or_not b a = by (cases_lt a b) (decide a b)
    where
      by : (a < b) ⊎ (b ≤ a) → OrNot (Same a b) → OrNot (With b a)
      by (inl less) (inl same) = inl (less, same)
      by (inl less) (inr other) = inr (λ w. other w.1)
      by (inr past) same = inr (λ w. let less = w.0 in omega (arith, less, past))

  -- the item has one of its key in front of it
  abbrev Second : ℕ → Type 0
  Second b = (a : ℕ) × (a < b) × IsLeast (With b) a

  second_or_not : (b : ℕ) → OrNot (Second b)
  second_or_not b = by (least_below (With b) (with_or_not b) b)
    where
      by : ((a : ℕ) × (a < b) × IsLeast (With b) a) ⊎ ((a : ℕ) → a < b → With b a → ⊥) → OrNot (Second b)
      by (inl found) = inl found
      by (inr none) = inr (λ s. none s.0 s.1 s.2.there)

  second_of : (a b : ℕ) → a < b → Same a b → Second b
  second_of a b less same = by (least_below (With b) (with_or_not b) b)
    where
      by : ((n : ℕ) × (n < b) × IsLeast (With b) n) ⊎ ((n : ℕ) → n < b → With b n → ⊥) → Second b
      by (inl found) = found
      by (inr never) = absurd (never a less (less, same))

  pub first_pair : ((a : ℕ) × (b : ℕ) × IsFirstPair Same a b) ⊎ NoPair Same
  first_pair = by (least_below Second second_or_not most)
    where
      by : ((b : ℕ) × (b < most) × IsLeast Second b) ⊎ ((b : ℕ) → b < most → Second b → ⊥) → ((a : ℕ) × (b : ℕ) × IsFirstPair Same a b) ⊎ NoPair Same
      by (inl found) =
          let b = found.0 in
          let s = found.2.there in
          inl (
            s.0,
            b,
            record {
              ordered = s.1;
              there = s.2.there.1;
              least_second = λ x y less below same. found.2.first y below (second_of x y less same);
              least_first = λ x less same. let before = s.1 in s.2.first x less (omega (arith, less, before), same);
            },
          )
      by (inr none) = inr (λ a b less same. none b (within a b same) (second_of a b less same))

-- ---- items of one key

module _ {X K : Type 0} (key : X → Option K) (same_or_not : (j k : K) → OrNot (j ≡ k)) (items : List X) where
  keys_or_not : (a b : ℕ) (x y : X) → slice_get items a ≡ Some x → slice_get items b ≡ Some y → (o q : Option K) → key x ≡ o → key y ≡ q → OrNot (HaveOne key items a b)
  keys_or_not a b x y at there None q e f = inr (λ h. none-some h.shared (sym e ∙ key_at x h.a (sym at ∙ h.first_is) ∙ h.first_key))
    where
      key_at : (x z : X) → Some x ≡ Some z → key x ≡ key z
      key_at x z same = λ i. key (same_Some x z same i)
  keys_or_not a b x y at there (Some j) None e f = inr (λ h. none-some h.shared (sym f ∙ key_at y h.b (sym there ∙ h.second_is) ∙ h.second_key))
    where
      key_at : (x z : X) → Some x ≡ Some z → key x ≡ key z
      key_at x z same = λ i. key (same_Some x z same i)
  keys_or_not a b x y at there (Some j) (Some k) e f = by (same_or_not j k)
    where
      key_at : (x z : X) → Some x ≡ Some z → key x ≡ key z
      key_at x z same = λ i. key (same_Some x z same i)

      by : OrNot (j ≡ k) → OrNot (HaveOne key items a b)
      by (inl same) = inl (record {
        a = x;
        b = y;
        shared = k;
        first_is = at;
        second_is = there;
        first_key = e ∙ (λ i. Some (same i));
        second_key = f;
      })
      by (inr other) = inr (λ h. other
          (same_Some j h.shared (sym e ∙ key_at x h.a (sym at ∙ h.first_is) ∙ h.first_key)
          ∙ sym (same_Some k h.shared (sym f ∙ key_at y h.b (sym there ∙ h.second_is) ∙ h.second_key))))

  have_or_not : (a b : ℕ) → OrNot (HaveOne key items a b)
  have_or_not a b = by (slice_get items a) (slice_get items b) refl refl
    where
      by : (o q : Option X) → slice_get items a ≡ o → slice_get items b ≡ q → OrNot (HaveOne key items a b)
      by None q e f = inr (λ h. none-some h.a (sym e ∙ h.first_is))
      by (Some x) None e f = inr (λ h. none-some h.b (sym f ∙ h.second_is))
      by (Some x) (Some y) e f = keys_or_not a b x y e f (key x) (key y) refl refl

  pub key_pair : ((a : ℕ) × (b : ℕ) × IsFirstPair (HaveOne key items) a b) ⊎ NoPair (HaveOne key items)
  key_pair = first_pair (HaveOne key items) have_or_not (length items) (λ a b h. slice_get_within items b h.b h.second_is)

pub texts_or_not : (j k : List ℕ) → OrNot (j ≡ k)
texts_or_not j k = by (true_or_not (bytes_eq j k))
  where
    by : OrNot (bytes_eq j k ≡ true) → OrNot (j ≡ k)
    by (inl same) = inl ((bytes_eq-Decides j k).0 same)
    by (inr other) = inr (λ e. other ((bytes_eq-Decides j k).1 e))

pub name_pair : (classes : List Linked) → ((a : ℕ) × (b : ℕ) × IsFirstPair (HaveOneName classes) a b) ⊎ NoPair (HaveOneName classes)
name_pair classes = key_pair name_of texts_or_not classes

pub id_pair : (classes : List Linked) → ((a : ℕ) × (b : ℕ) × IsFirstPair (HaveOneId classes) a b) ⊎ NoPair (HaveOneId classes)
id_pair classes = key_pair id_of (λ j k. cases_eq j k) classes
