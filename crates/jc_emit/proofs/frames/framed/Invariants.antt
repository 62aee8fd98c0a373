use Rattle.std.proofs.Common.{take}
use Rattle.jc_emit.specs.Framing.{AreFramed}
use Rattle.jc_emit.proofs.frames.framed.Given as goal

-- the frames so far are marked
abbrev pub invariant-marking : goal.invariant-marking
invariant-marking l = AreFramed (take l.frame-index l.frames) l.count l.marks.items
