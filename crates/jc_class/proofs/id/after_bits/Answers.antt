use Rattle.std.proofs.Common.{sym, ◌∙◌, ap, ◌-◌, ◌+◌, arith}
use Rattle.jc_class.specs.ClassId.{after_bits}
use Rattle.jc_class.proofs.RemainderLaws.{bits_step, no_bits}
use Rattle.jc_class.proofs.id.after_bits.Goals as goal

pub loop-bit-preserved : goal.loop-bit-preserved
loop-bit-preserved c =
    ap (after_bits (8 - (c.loop-bit._bit + 1))) c.after_bit-remainder.ensures
    ∙ sym (bits_step c.loop-bit._bit c.loop-bit.remainder c.loop-bit-test.true)
    ∙ c.loop-bit.invariant

pub returns : goal.returns
returns c = sym (no_bits c.loop-bit._bit c.loop-bit.remainder (omega arith)) ∙ c.loop-bit.invariant
