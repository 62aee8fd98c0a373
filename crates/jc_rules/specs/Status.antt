-- The status of a line of a class (JaCoCo's documentation on coverage counters, and its status of a source line).
use Rattle.std.specs.Prelude.{◌≡◌, ℕ, Bool, true, false, List, [], ◌∷◌, length, nat_le, Some, Contains, slice_get, if◌then◌else◌}
use Rattle.jc_cover.specs.Counters.{Method, is_covered, IsLineOf}
use Rattle.jc_rules.specs.declared.status.LineState.{LineState}
use Rattle.jc_rules.specs.declared.status.LineState.TheVariants.{Empty, Not, Partly, Fully}

-- what an instruction counts as: itself, and each of its branches where it has two or more; each is covered or missed
abbrev pub items_of : List Bool → List Bool
items_of values = is_covered values ∷ (if nat_le 2 (length values) then values else [])

-- an instruction of one of the methods has the line, and its branches have these values
pub record HasInsn (methods : List Method) (number : ℕ) (values : List Bool) : Type 0 where
  pub method : Method
  pub among : Contains methods method
  pub place : ℕ
  pub stands : slice_get method.insns place ≡ Some values
  pub line : IsLineOf method.body.lines place (Some number)

-- an instruction of the line, or a branch of one, is covered, or one is missed
abbrev pub HasItem : List Method → ℕ → Bool → Type 0
HasItem methods number covered = (values : List Bool) × HasInsn methods number values × Contains (items_of values) covered

-- by whether something is covered, and whether something is missed
abbrev pub IsStatus : (Bool → Type 0) → LineState → Type 0
IsStatus Has Empty = (covered : Bool) → Has covered → ⊥
IsStatus Has Not = Has false × (Has true → ⊥)
IsStatus Has Partly = Has true × Has false
IsStatus Has Fully = Has true × (Has false → ⊥)

-- the status of the line with this number
abbrev pub IsLineStatus : List Method → ℕ → LineState → Type 0
IsLineStatus methods number status = IsStatus (HasItem methods number) status
