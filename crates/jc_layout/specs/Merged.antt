-- Frames of two lists, by their places (JVM Specification 4.7.4).
use Rattle.std.specs.Prelude.{ℕ, zero, suc, Bool, false, List, [], ◌∷◌, filter, nat_lt, nat_eq, if◌then◌else◌}
use Rattle.jc_methods.specs.Widened.{WideSet}
use Rattle.jc_methods.specs.declared.body.FrameAt.{FrameAt}

-- a frame in front of the first of these that stands behind it, unless one stands at its place
abbrev pub with_frame : FrameAt → List FrameAt → List FrameAt
with_frame f [] = f ∷ []
with_frame f (g ∷ frames) =
    if nat_lt f.at g.at then f ∷ g ∷ frames
    else if nat_eq f.at g.at then g ∷ frames
    else g ∷ with_frame f frames

-- The frames of both lists, each of which is in rising order, one at each place: where both have one, that of the first list.
abbrev pub merged : List FrameAt → List FrameAt → List FrameAt
merged frames [] = frames
merged frames (f ∷ others) = with_frame f (merged frames others)

-- a wide jump stands directly in front of the place
abbrev pub is_used_by : WideSet → (place : ℕ) → Bool
is_used_by wide zero = false
is_used_by wide (suc q) = wide q

-- of the frames behind conditional jumps those behind wide ones
abbrev pub used_frames : WideSet → List FrameAt → List FrameAt
used_frames wide frames = filter (λ (f : FrameAt). is_used_by wide f.at) frames
