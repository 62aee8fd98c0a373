-- More names change no state.
use Rattle.std.proofs.Common.{◌≡◌, ℕ, zero, suc, List, ◌++◌, length, Option, Some, None, if◌then◌else◌, ap, ap₂}
use Rattle.std.specs.Option.{option_and_then}
use Rattle.jc_methods.specs.declared.body.Body.{Body}
use Rattle.jc_methods.specs.VerificationTypes.{Names, TypeState, TypeStateAt, AreNumberedFrames}
use Rattle.jc_methods.specs.EntryState.{entry_of}
use Rattle.jc_methods.specs.Flow.{falls_at}
use Rattle.jc_methods.proofs.SeenLaws.{frames_stay}
use Rattle.jc_kinds_after.specs.After.{insn_at, after_of}
use Rattle.jc_kinds.specs.States.{frame_at, or_else, state_of}

pub states_stay : (names more : Names) (b : Body) → AreNumberedFrames (length names) b.frames → (i : ℕ) → state_of (names ++ more) b i ≡ state_of names b i
unfolding state_of
states_stay names more b n zero = ap (λ (fs : List TypeStateAt). or_else (frame_at fs 0) (Some (entry_of b))) (frames_stay names more b.frames n)
states_stay names more b n (suc i) =
    ap₂ (λ (fs : List TypeStateAt) (s : Option TypeState). or_else (frame_at fs (suc i)) (if falls_at (insn_at b i) then option_and_then (after_of b i) s else None))
    (frames_stay names more b.frames n) (states_stay names more b n i)
