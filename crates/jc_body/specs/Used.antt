-- What stands at places, one entry for each.
use Rattle.std.specs.Prelude.{ℕ, List, [], ◌∷◌, Option, Some, None}
use Rattle.std.specs.List.{flat_map}
use Rattle.jc_methods.specs.declared.body.Use.{Use}
use Rattle.jc_methods.specs.declared.body.What.{What}
use Rattle.jc_pool.specs.Pool.{PoolValue}
use Rattle.jc_body.specs.Standing.{what_at}

abbrev pub use_of : ℕ → Option What → List Use
use_of place None = []
use_of place (Some what) = record { place = place; what = what } ∷ []

-- what stands at each of the places, where something does
abbrev pub uses_of : PoolValue → List ℕ → List Use
uses_of pool places = flat_map (λ place. use_of place (what_at pool place)) places
