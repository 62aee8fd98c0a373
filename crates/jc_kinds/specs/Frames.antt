-- The frames of a body by the instructions at which they stand.
use Rattle.std.specs.Prelude.{◌≡◌, ℕ, ◌<◌, List, [], ◌∷◌, length, Option, Some, None, option_map, nat_eq, All, slice_get, slice_index, if◌then◌else◌}
use Rattle.jc_methods.specs.declared.kind.State.{State}
use Rattle.jc_methods.specs.declared.body.FrameAt.{FrameAt}
use Rattle.jc_kinds.specs.declared.frames.Framed.{Framed}

-- what the frame at an instruction says, if one stands there
abbrev pub frame_in : List FrameAt → ℕ → Option State
frame_in [] i = None
frame_in (f ∷ frames) i = if nat_eq f.at i then Some f.state else frame_in frames i

-- what the frame with a number says
abbrev pub numbered_frame : List FrameAt → ℕ → Option State
numbered_frame frames number = option_map (λ (f : FrameAt). f.state) (slice_get frames number)

-- The frames stand among so many instructions, and a list has for each of these the number of the frame there, or
-- one that no frame has.
pub record AreNumbers (frames : List FrameAt) (count : ℕ) (numbers : List ℕ) : Type 0 where
  pub size : length numbers ≡ count
  pub within : All (λ f. f.at < count) frames
  pub each : (i : ℕ) → i < count → numbered_frame frames (slice_index numbers i) ≡ frame_in frames i

-- the body's frames stand among its instructions, and the number of the frame at each is listed
abbrev pub IsNumbered : Framed → Type 0
IsNumbered f = AreNumbers f.body.now.frames (length f.body.now.code) f.numbers.now
