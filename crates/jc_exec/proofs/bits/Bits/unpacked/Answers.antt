use Rattle.std.proofs.Common.{ap, length, arith}
use Rattle.jc_exec.proofs.PackedLaws.{bytes_size}
use Rattle.jc_exec.proofs.bits.Bits.unpacked.Goals as goal

pub first_bits-requires : goal.first_bits-requires
first_bits-requires c = omega (arith, bytes_size c.self.inside.count c.self.inside.bytes.items c.self.invariant, ap length c.deref.ensures.value)
