-- What stands when cases have run: their ends, and the probes that they hit.
use Rattle.std.specs.Prelude.{◌≡◌, ℕ, ◌<◌, List, length, Contains, Some, slice_get}

-- the ends, by case, are those of the cases that ran
pub record EndsOf {E : Type 0} (cases : ℕ) (end_of : ℕ → E) (Ran : ℕ → Type 0) (ends : List (ℕ × E)) : Type 0 where
  pub each : (k : ℕ) (e : E) → Contains ends (k, e) → (k < cases) × (e ≡ end_of k)
  pub all : (k : ℕ) → k < cases → Ran k → Contains ends (k, end_of k)

-- the hits are exactly those of the cases that ran
pub record HitsOf (cases : ℕ) (hit_by : (case class id : ℕ) → Type 0) (Ran : ℕ → Type 0) (hits : List (ℕ × ℕ)) : Type 0 where
  pub by : (class id : ℕ) → Contains hits (class, id) → (k : ℕ) × (k < cases) × Ran k × hit_by k class id
  pub all : (k class id : ℕ) → k < cases → Ran k → hit_by k class id → Contains hits (class, id)

-- the ends of all cases, in their order
pub record AreEnds {E : Type 0} (cases : ℕ) (end_of : ℕ → E) (ends : List E) : Type 0 where
  pub count : length ends ≡ cases
  pub each : (k : ℕ) → k < cases → slice_get ends k ≡ Some (end_of k)
