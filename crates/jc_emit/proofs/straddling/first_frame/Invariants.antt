use Rattle.std.proofs.Common.{take}
use Rattle.jc_emit.specs.Straddling.{FramesStraddle, IsFirstOf}
use Rattle.jc_emit.proofs.straddling.first_frame.Given as goal

-- the first place by the frames so far
abbrev pub invariant-seeking : goal.invariant-seeking
invariant-seeking l = IsFirstOf (FramesStraddle l.arg_slots (take l.frame-index l.frames)) l.first
