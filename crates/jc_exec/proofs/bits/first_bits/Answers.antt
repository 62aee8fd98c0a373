use Rattle.std.proofs.Common.{◌*◌, ◌++◌, take, ◌∙◌, ap, arith}
use Rattle.jc_exec.proofs.BitsLaws.{unpack_none, unpack_byte, take_unpack}
use Rattle.jc_exec.proofs.bits.first_bits.Goals as goal

pub unpacking-init : goal.unpacking-init
unpacking-init c = c.in_ok-bits.ensures.items ∙ unpack_none c.args.bytes.now

pub unpacking-preserved : goal.unpacking-preserved
unpacking-preserved c =
    c.in_ok-extend_from_slice.ensures.items
    ∙ (λ i. c.unpacking.invariant i ++ c.eight_bits.ensures i)
    ∙ unpack_byte c.args.bytes.now c.unpacking.byte-index

pub returns : goal.returns
returns c =
    c.from_vec.ensures ∙ c.truncate.ensures.items ∙ ap (take c.args.count) c.unpacking.invariant
    ∙ take_unpack c.args.count (8 * c.unpacking.byte-index) c.args.bytes.now (omega (arith, c.requires, c.unpacking-test.false, c.unpacking.auto))
