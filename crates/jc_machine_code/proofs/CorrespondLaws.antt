-- Lists that are made item by item from others.
use Rattle.std.proofs.Common.{◌≡◌, ⊎_elim, ℕ, suc, ◌+◌, ◌<◌, ◌≤◌, List, [], ◌∷◌, ◌++◌, length, map, get_or, Option, Some, None, refl, sym, ap, ap₂, ◌∙◌, subst, subst₂, length-append, arith}
use Rattle.std.specs.List.{slice_get}
use Rattle.std.proofs.lemmas.Option.{slice_get_read, slice_get_within, none-some, same_Some}
use Rattle.std.proofs.lemmas.List.{get_or_default}
use Rattle.jc_bytes.proofs.ListLaws.{item_at, put_cases}
use Rattle.jc_machine_code.specs.Prepared.{Correspond}

module _ {X Y : Type 0} (R : ℕ → X → Y → Type 0) (xs : List X) where
  -- so many items are made
  pub record BuiltTo (n : ℕ) (ys : List Y) : Type 0 where
    pub length_is : length ys ≡ n
    pub each : (i : ℕ) (x : X) (y : Y) → slice_get xs i ≡ Some x → slice_get ys i ≡ Some y → R i x y

  pub built_none : BuiltTo 0 []
  built_none = record { length_is = refl; each = λ i x y e g. absurd (cc) }

  pub built_more : (n : ℕ) (ys : List Y) (x : X) (y : Y) → n < length xs → x ≡ get_or xs n x → R n x y → BuiltTo n ys → BuiltTo (n + 1) (ys ++ y ∷ [])
  built_more n ys x y h is r b = record {
    length_is = length-append ys (y ∷ []) ∙ ap (λ m. m + 1) b.length_is;
    each = λ i z w at put. ⊎_elim
        (λ before. b.each i z w at before)
        (λ last.
        let place : i ≡ n = last.0 ∙ b.length_is in
        let here : slice_get xs n ≡ Some x = slice_get_read xs (length xs) n x refl h is in
        let this : z ≡ x = same_Some z x (sym (subst (λ (m : ℕ). slice_get xs m ≡ Some z) place at) ∙ here) in
        subst (λ (m : ℕ). R m z w) (sym place) (subst₂ (λ (u : X) (v : Y). R n u v) (sym this) last.1 r))
        (put_cases ys y w i put);
  }

  pub built_next : (n : ℕ) (ys : List Y) (d : X) (y : Y) → n < length xs → R n (get_or xs n d) y → BuiltTo n ys → BuiltTo (n + 1) (ys ++ y ∷ [])
  built_next n ys d y h r b = built_more n ys (get_or xs n d) y h (get_or_default xs n d (get_or xs n d) h) r b

  pub built_all : (n : ℕ) (ys : List Y) → length xs ≤ n → n ≤ length xs → BuiltTo n ys → Correspond R xs ys
  built_all n ys h g b = record { length_is = b.length_is ∙ (omega arith); each = b.each }

module _ {X Y : Type 0} (R : ℕ → X → Y → Type 0) (xs : List X) (ys : List Y) (made : Correspond R xs ys) (i : ℕ) where
  -- what is made is made of the item at the same place
  pub made_of : (y : Y) → slice_get ys i ≡ Some y → (x : X) × (slice_get xs i ≡ Some x) × R i x y
  made_of y e =
      let x = item_at xs i (subst (λ (m : ℕ). i < m) made.length_is (slice_get_within ys i y e)) in
      (x.0, x.1, made.each i x.0 y x.1 e)

  pub made_none : slice_get ys i ≡ None → slice_get xs i ≡ None
  made_none e = by (slice_get xs i) refl
    where
      by : (o : Option X) → slice_get xs i ≡ o → slice_get xs i ≡ None
      by None g = g
      by (Some x) g =
          let y = item_at ys i (subst (λ (m : ℕ). i < m) (sym made.length_is) (slice_get_within xs i x g)) in
          absurd (none-some y.0 (sym e ∙ y.1))

-- where each item gives what the one at the same place gives, both lists give the same
pub same_map : {X Y Z : Type 0} (f : X → Z) (g : Y → Z) (xs : List X) (ys : List Y) → Correspond (λ i x y. g y ≡ f x) xs ys → map g ys ≡ map f xs
same_map f g [] [] made = refl
same_map f g [] (y ∷ ys) made = absurd (let e = made.length_is in omega (arith, e))
same_map f g (x ∷ xs) [] made = absurd (let e = made.length_is in omega (arith, e))
same_map f g (x ∷ xs) (y ∷ ys) made = ap₂ (λ z zs. z ∷ zs) (made.each 0 x y refl refl) (same_map f g xs ys (record {
  length_is = let e = made.length_is in omega (arith, e);
  each = λ i u v e h. made.each (suc i) u v e h;
}))

-- what is made of what is made of the items
pub through : {X Y Z : Type 0} (R : ℕ → X → Y → Type 0) (S : ℕ → X → Z → Type 0) (xs : List X) (ys : List Y) (zs : List Z) → Correspond R xs ys
    → Correspond (λ i y z. (x : X) → R i x y → S i x z) ys zs → Correspond S xs zs
through R S xs ys zs first second = record {
  length_is = second.length_is ∙ first.length_is;
  each = λ i x z at made.
      let y = item_at ys i (subst (λ (m : ℕ). i < m) second.length_is (slice_get_within zs i z made)) in
      second.each i y.0 z y.1 made x (first.each i x y.0 at y.1);
}
