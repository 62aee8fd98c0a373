use Rattle.std.proofs.Common.{◌≡◌, ℕ}
use Rattle.jc_bytes.specs.PlainLists.{pieces}
use Rattle.jc_emit.specs.Emission.{Emitting, wide_frames_at}
use Rattle.jc_emit.specs.Framing.{IsFraming}
use Rattle.jc_emit.proofs.frames.Framing.wide_frames.Given as goal

-- the frames of the instructions so far are there
abbrev pub invariant-framing : goal.invariant-framing
invariant-framing l = (first : ℕ) (given : Emitting) → IsFraming first given l.self → l.frames.items ≡ pieces (wide_frames_at l.self.body.now first l.self.states.now given) l.at
