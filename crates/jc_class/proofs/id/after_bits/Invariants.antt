use Rattle.std.proofs.Common.{◌≡◌, ◌-◌}
use Rattle.jc_class.specs.ClassId.{after_bits}
use Rattle.jc_class.proofs.id.after_bits.Given as goal

-- the bits that are left
abbrev pub invariant-loop-bit : goal.invariant-loop-bit
invariant-loop-bit l = after_bits (8 - l._bit) l.remainder ≡ after_bits 8 l.fn.start
