-- Entries of tables, which are read as they were written.
use Rattle.std.proofs.Common.{◌≡◌, Bool, true, List, [], ◌∷◌, map, filter, refl, ◌∙◌, ap, ap₂, if◌then◌else◌}
use Rattle.std.specs.List.{AllByRecursion}

-- what is said of each item of a list stands item by item
pub same_items : {X Y Z : Type 0} (f : Y → Z) (g : X → Y) (h : X → Z) (xs : List X) → AllByRecursion (λ x. f (g x) ≡ h x) xs
    → map f (map g xs) ≡ map h xs
same_items f g h [] all = refl
same_items f g h (x ∷ xs) all = ap₂ (λ (z : _) (zs : List _). z ∷ zs) all.0 (same_items f g h xs all.1)

-- none of them is dropped
pub record IsKeptAs {X Y Z : Type 0} (keeps : Y → Bool) (f : Y → Z) (g : X → Y) (h : X → Z) (x : X) : Type 0 where
  pub kept : keeps (g x) ≡ true
  pub same : f (g x) ≡ h x

pub same_kept : {X Y Z : Type 0} (keeps : Y → Bool) (f : Y → Z) (g : X → Y) (h : X → Z) (xs : List X) → AllByRecursion (IsKeptAs keeps f g h) xs
    → map f (filter keeps (map g xs)) ≡ map h xs
same_kept keeps f g h [] all = refl
same_kept keeps f g h (x ∷ xs) all =
    ap (λ (t : Bool). map f (if t then g x ∷ filter keeps (map g xs) else filter keeps (map g xs))) all.0.kept
    ∙ ap₂ (λ (z : _) (zs : List _). z ∷ zs) all.0.same (same_kept keeps f g h xs all.1)
