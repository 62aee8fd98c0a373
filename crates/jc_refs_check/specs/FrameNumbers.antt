-- The frames of a body in front of an instruction, and those at it and behind it.
use Rattle.std.specs.Prelude.{◌≡◌, ℕ, ◌<◌, ◌≤◌, List, length, Some, slice_get}
use Rattle.jc_methods.specs.declared.body.FrameAt.{FrameAt}

-- so many frames stand in front of the instruction, and no other does
pub record StandsBehind (frames : List FrameAt) (at count : ℕ) : Type 0 where
  pub within : count ≤ length frames
  pub before : (k : ℕ) (f : FrameAt) → slice_get frames k ≡ Some f → k < count → f.at < at
  pub behind : (k : ℕ) (f : FrameAt) → slice_get frames k ≡ Some f → count ≤ k → at ≤ f.at
