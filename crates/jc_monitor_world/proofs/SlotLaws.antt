-- Items that lie in the first of many slots, each seen as something: where one stands, and what becomes of them as a slot is written.
use Rattle.std.proofs.Common.{◌≡◌, ℕ, zero, suc, ◌+◌, ◌-◌, ◌<◌, ◌≤◌, Bool, true, false, not, cond, List, [], ◌∷◌, ◌++◌, length, map, take, drop, reverse, Some, None, nat_lt, refl, sym, ap, ap₂, ◌∙◌, subst, arith}
use Rattle.std.specs.Prelude.{find, position, slice_get, slice_set, slice_index_or}
use Rattle.std.specs.List.{position_or_len}
use Rattle.std.proofs.Math.Seq.{take-set-lt, take-suc}
use Rattle.std.proofs.lemmas.Bool.{ltb-true, ltb-false}
use Rattle.std.proofs.lemmas.Option.{same_Some, none-some, slice_get_past}
use Rattle.std.proofs.lemmas.List.{length-map, length-take-le, map-set, map-append, get_or-map, get_or-take, take_more_set, reverse-append, length-reverse, take-take, take-map, drop-map, drop-take, length-drop}
use Rattle.std.proofs.lemmas.List.Edits.{take-paste}
use Rattle.std.specs.List.{copy_within}
use Rattle.std.proofs.lemmas.List.Folds.{find_at}
use Rattle.jc_monitor_model.proofs.PlaceLaws.{IsFirst}

-- ---- the first item that passes

module _ {X : Type 0} (p : X → Bool) where
  one_more : (n : ℕ) → suc n ≡ 1 + n
  one_more n = omega arith

  first_before : (xs : List X) → position_or_len p xs < length xs → IsFirst p xs (position_or_len p xs)
  first_before [] less = absurd (omega (arith, less))
  first_before (x ∷ xs) less = by (p x) refl less (first_before xs)
    where
      by : (z : Bool) → p x ≡ z → cond (not z) (1 + position_or_len p xs) 0 < suc (length xs)
          → (position_or_len p xs < length xs → IsFirst p xs (position_or_len p xs)) → IsFirst p (x ∷ xs) (cond (not z) (1 + position_or_len p xs) 0)
      by true q less rest = q
      by false q less rest = subst (IsFirst p (x ∷ xs)) (one_more (position_or_len p xs)) (q, rest (omega (arith, less)))

  pub first_is : (xs : List X) (i : ℕ) → position p xs ≡ Some i → IsFirst p xs i
  first_is xs i e = by (nat_lt (position_or_len p xs) (length xs)) refl e
    where
      by : (z : Bool) → nat_lt (position_or_len p xs) (length xs) ≡ z → cond z (Some (position_or_len p xs)) None ≡ Some i → IsFirst p xs i
      by true q e = subst (IsFirst p xs) (same_Some (position_or_len p xs) i e) (first_before xs (ltb-true (position_or_len p xs) (length xs) q))
      by false q e = absurd (none-some i e)

  pub none_is : (xs : List X) → position p xs ≡ None → find p xs ≡ None
  none_is xs e = by (nat_lt (position_or_len p xs) (length xs)) refl e
    where
      by : (z : Bool) → nat_lt (position_or_len p xs) (length xs) ≡ z → cond z (Some (position_or_len p xs)) None ≡ None → find p xs ≡ None
      by true q e = absurd (none-some (position_or_len p xs) (sym e))
      by false q e = find_at p xs ∙ slice_get_past xs (position_or_len p xs) (ltb-false (position_or_len p xs) (length xs) q)

-- ---- an item goes, and those behind it move down

pub closed : {X : Type 0} (xs : List X) (i n : ℕ) → i < n → n ≤ length xs
    → take (n - 1) (copy_within xs (i + 1) n i) ≡ take i (take n xs) ++ drop (i + 1) (take n xs)
closed xs i n less few =
    let m : ℕ = n - (i + 1) in
    let long = length-drop (i + 1) xs in
    let shorter : n - 1 ≡ i + m = omega (arith, less) in
    let same : n ≡ i + 1 + m = omega (arith, less) in
    ap (λ k. take k (copy_within xs (i + 1) n i)) shorter
    ∙ (take-paste xs i (drop (i + 1) xs) m (omega (arith, less, few)) (omega (arith, long, few))
    ∙ ap₂ (λ before behind. before ++ behind) (sym (take-take i n xs (omega (arith, less))))
    (sym (ap (λ k. drop (i + 1) (take k xs)) same ∙ drop-take (i + 1) m xs)))

-- ---- items that are seen as others

module _ {X Y : Type 0} (f : X → Y) where
  len-map : (p : Y → Bool) (xs : List X) → position_or_len p (map f xs) ≡ position_or_len (λ x. p (f x)) xs
  len-map p [] = refl
  len-map p (x ∷ xs) = ap (λ n. cond (not (p (f x))) (1 + n) 0) (len-map p xs)

  pub position-map : (p : Y → Bool) (xs : List X) → position p (map f xs) ≡ position (λ x. p (f x)) xs
  position-map p xs = ap₂ (λ k n. cond (nat_lt k n) (Some k) None) (len-map p xs) (length-map xs f)

  module _ (items : List X) (n : ℕ) where
    pub seen_length : n ≤ length items → length (map f (take n items)) ≡ n
    seen_length few = length-map (take n items) f ∙ length-take-le n items few

    pub seen_at : (i : ℕ) (d : X) (e : Y) → n ≤ length items → i < n → slice_index_or (map f (take n items)) i e ≡ f (slice_index_or items i d)
    seen_at i d e few less =
        let long = length-take-le n items few in
        get_or-map f (take n items) i d e (omega (arith, long, less)) ∙ ap f (get_or-take n items i d less)

    pub seen_set : (i : ℕ) (x : X) → i < n → map f (take n (slice_set items i x)) ≡ slice_set (map f (take n items)) i (f x)
    seen_set i x less = ap (map f) (take-set-lt n items i x less) ∙ map-set f (take n items) i x

    pub seen_push : (x : X) → n < length items → map f (take (n + 1) (slice_set items n x)) ≡ map f (take n items) ++ f x ∷ []
    seen_push x less = ap (map f) (take_more_set items n x less) ∙ map-append f (take n items) (x ∷ [])

    -- the latest first
    pub latest_push : (x : X) → n < length items → map f (reverse (take (n + 1) (slice_set items n x))) ≡ f x ∷ map f (reverse (take n items))
    latest_push x less = ap (λ l. map f (reverse l)) (take_more_set items n x less) ∙ ap (map f) (reverse-append (take n items) (x ∷ []))

    pub latest_first : (d : X) → 0 < n → n ≤ length items
        → slice_get (map f (reverse (take n items))) 0 ≡ Some (f (slice_index_or items (n - 1) d))
    latest_first d some few = by n some few
      where
        by : (k : ℕ) → 0 < k → k ≤ length items → slice_get (map f (reverse (take k items))) 0 ≡ Some (f (slice_index_or items (k - 1) d))
        by zero some few = absurd (omega (arith, some))
        by (suc k) some few =
            let before : suc k - 1 ≡ k = omega arith in
            ap (λ l. slice_get (map f (reverse l)) 0) (take-suc items k d (omega (arith, few)))
            ∙ ap (λ l. slice_get (map f l) 0) (reverse-append (take k items) (slice_index_or items k d ∷ []))
            ∙ ap (λ i. Some (f (slice_index_or items i d))) (sym before)

    pub latest_gone : (d : X) → n ≤ length items → map f (reverse (take (n - 1) items)) ≡ drop 1 (map f (reverse (take n items)))
    latest_gone d few = by n few
      where
        by : (k : ℕ) → k ≤ length items → map f (reverse (take (k - 1) items)) ≡ drop 1 (map f (reverse (take k items)))
        by zero few = refl
        by (suc k) few =
            let before : suc k - 1 ≡ k = omega arith in
            ap (λ j. map f (reverse (take j items))) before
            ∙ sym (ap (λ l. drop 1 (map f (reverse l))) (take-suc items k d (omega (arith, few)))
            ∙ ap (λ l. drop 1 (map f l)) (reverse-append (take k items) (slice_index_or items k d ∷ [])))

    pub latest_length : n ≤ length items → length (map f (reverse (take n items))) ≡ n
    latest_length few = length-map (reverse (take n items)) f ∙ length-reverse (take n items) ∙ length-take-le n items few

    pub seen_closed : (i : ℕ) (xs : List X) → xs ≡ take i (take n items) ++ drop (i + 1) (take n items)
        → map f xs ≡ take i (map f (take n items)) ++ drop (suc i) (map f (take n items))
    seen_closed i xs e =
        let next : i + 1 ≡ suc i = omega arith in
        ap (map f) e ∙ map-append f (take i (take n items)) (drop (i + 1) (take n items))
        ∙ ap₂ (λ before behind. before ++ behind) (sym (take-map f i (take n items)))
        (sym (drop-map f (i + 1) (take n items)) ∙ ap (λ k. drop k (map f (take n items))) next)
