-- Whether references suit where control goes on, on types as they are kept.
use Rattle.std.specs.Prelude.{Bool, true, ℕ, List, Option, Some, None}
use Rattle.jc_methods.specs.declared.kind.State.{State}
use Rattle.jc_methods.specs.declared.body.FrameAt.{FrameAt}
use Rattle.jc_methods.specs.VerificationTypes.{Names}
use Rattle.jc_kinds.specs.Frames.{frame_in}
use Rattle.jc_refs_check.specs.KindSuits.{state_suits}

-- a state suits a frame, if there is one
abbrev pub suits_there : Names → State → Option State → Bool
suits_there names s None = true
suits_there names s (Some frame) = state_suits names s frame

abbrev pub suits_frame : Names → List FrameAt → State → ℕ → Bool
suits_frame names frames s at = suits_there names s (frame_in frames at)
