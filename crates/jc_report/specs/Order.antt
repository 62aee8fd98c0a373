-- Lists that are put in order.
use Rattle.std.specs.Prelude.{Bool, List, [], ◌∷◌, if◌then◌else◌, IsSortedBy}
use Rattle.std.specs.List.Sorted.{IsStableBy}

-- no item of the later list is less than the one before it, and those that tie stand in it as they did
pub record IsInOrder {X : Type 0} (lt : X → X → Bool) (old new : List X) : Type 0 where
  pub sorted : IsSortedBy lt new
  pub stable : IsStableBy lt old new

-- in front of the first item that isn't less
abbrev pub placed : {X : Type 0} → (X → X → Bool) → X → List X → List X
placed lt x [] = x ∷ []
placed lt x (y ∷ ys) = if lt y x then y ∷ placed lt x ys else x ∷ y ∷ ys

abbrev pub in_order : {X : Type 0} → (X → X → Bool) → List X → List X
in_order lt [] = []
in_order lt (x ∷ xs) = placed lt x (in_order lt xs)
