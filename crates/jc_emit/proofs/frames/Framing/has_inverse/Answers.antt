use Rattle.std.proofs.Common.{arith}
use Rattle.jc_emit.proofs.FramingLaws.{inverse_read}
use Rattle.jc_emit.proofs.frames.Framing.has_inverse.Goals as goal

pub returns : goal.returns
returns c = λ first given is.
    inverse_read first given c.args.self.now is c.args.at c.late_probe.result c.is_some.result (omega (arith, c.if-at-eq0.false)) c.is_some.ensures
    (c.late_probe.ensures first given is)
