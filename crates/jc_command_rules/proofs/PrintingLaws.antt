-- Lines are put at the end, one after the other.
use Rattle.std.proofs.Common.{◌≡◌, ℕ, ◌+◌, ◌<◌, ◌≤◌, List, [], ◌∷◌, ◌++◌, length, take, get_or, map, sym, ◌∙◌, ap, append_assoc, subst}
use Rattle.std.specs.List.{flat_map}
use Rattle.std.proofs.lemmas.Grind.{flat_map-append}
use Rattle.std.proofs.lemmas.List.{append-nil, map-append, take_more, take_all}
use Rattle.std.proofs.lemmas.List.Concat.{flat_map-cons}

module _ {X Y : Type 0} (f : X → List Y) (xs : List X) (before : List Y) where
  -- what comes of one item more is put at the end
  pub put_more : (k : ℕ) (default : X) (now new : List Y) → k < length xs → now ≡ before ++ flat_map f (take k xs)
      → new ≡ now ++ f (get_or xs k default) → new ≡ before ++ flat_map f (take (k + 1) xs)
  put_more k default now new less so_far grows =
      let x = get_or xs k default in
      let more : take (k + 1) xs ≡ take k xs ++ x ∷ [] = take_more xs k default less in
      let all : flat_map f (take (k + 1) xs) ≡ flat_map f (take k xs) ++ f x =
      ap (flat_map f) more ∙ flat_map-append f (take k xs) (x ∷ [])
      ∙ ap (λ (ys : List Y). flat_map f (take k xs) ++ ys) (flat_map-cons f x [] ∙ append-nil (f x)) in
      grows ∙ ap (λ (ys : List Y). ys ++ f x) so_far ∙ append_assoc before (flat_map f (take k xs)) (f x) ∙ ap (λ (ys : List Y). before ++ ys) (sym all)

  pub all_put : (k : ℕ) (now : List Y) → length xs ≤ k → now ≡ before ++ flat_map f (take k xs) → now ≡ before ++ flat_map f xs
  all_put k now all so_far = subst (λ (l : List X). now ≡ before ++ flat_map f l) (take_all k xs all) so_far

module _ {X Y : Type 0} (f : X → Y) (xs : List X) where
  -- one item more is taken
  pub taken_more : (k : ℕ) (x : X) (now new : List Y) → k < length xs → x ≡ get_or xs k x → now ≡ map f (take k xs) → new ≡ now ++ f x ∷ [] → new ≡ map f (take (k + 1) xs)
  taken_more k x now new less at so_far grows =
      let more : take (k + 1) xs ≡ take k xs ++ x ∷ [] = take_more xs k x less ∙ ap (λ (y : X). take k xs ++ y ∷ []) (sym at) in
      grows ∙ ap (λ (ys : List Y). ys ++ f x ∷ []) so_far ∙ sym (ap (map f) more ∙ map-append f (take k xs) (x ∷ []))

  pub all_taken : (k : ℕ) (now : List Y) → length xs ≤ k → now ≡ map f (take k xs) → now ≡ map f xs
  all_taken k now all so_far = subst (λ (l : List X). now ≡ map f l) (take_all k xs all) so_far
