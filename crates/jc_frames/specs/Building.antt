-- The classes whose numbers are known while states are built.
use Rattle.std.specs.Prelude.{◌≡◌, ℕ, Some, IfSome, nat_eq, slice_get}
use Rattle.std.specs.HashMap.{get, HashMap}
use Rattle.jc_methods.specs.VerificationTypes.{Names}
use Rattle.jc_pool.specs.Pool.{PoolValue}
use Rattle.jc_frames.specs.Running.{name_at}

-- the class at each place has the number that is known
pub record AreKnown {S : Type 0} (pool : PoolValue) (names : Names) (known : HashMap ℕ ℕ S) : Type 0 where
  pub at : (place : ℕ) → IfSome (get nat_eq known place) (λ number. slice_get names number ≡ Some (name_at pool place))
