-- The first place below a bound, or the bound.
use Rattle.std.specs.Prelude.{ℕ, ◌<◌, ◌≤◌}

-- the first place below the bound of which something holds, or the bound
pub record IsFirstOrBound (Fact : ℕ → Type 0) (bound result : ℕ) : Type 0 where
  pub within : result ≤ bound
  pub free : (i : ℕ) → i < result → Fact i → ⊥
  pub found : result < bound → Fact result
