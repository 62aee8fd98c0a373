use Rattle.std.proofs.Common.{arith}
use Rattle.jc_exec.proofs.PackedLaws.{joined_none, joined_more}
use Rattle.jc_exec.proofs.bits.join_bytes.Goals as goal

pub joining-init : goal.joining-init
joining-init c = joined_none c.args.bytes.now

pub joining-preserved : goal.joining-preserved
joining-preserved c = joined_more c.args.bytes.now c.args.others.now c.joining.bytes c.joining.k c.joining.invariant (omega (arith, c.joining-test.true)) c.requires
