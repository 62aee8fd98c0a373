use Rattle.std.proofs.Common.{◌≡◌, ◌*◌}
use Rattle.jc_exec.specs.Format.{unpack}
use Rattle.jc_exec.proofs.bits.first_bits.Given as goal

-- the bits of the bytes so far
abbrev pub invariant-unpacking : goal.invariant-unpacking
invariant-unpacking l = l.bits.items ≡ unpack (8 * l.byte-index) l.fn.bytes
