use Rattle.std.proofs.Common.{sym}
use Rattle.jc_exec.specs.Packed.{unpack}
use Rattle.jc_exec.proofs.BitsLaws.{length_unpack}
use Rattle.jc_exec.proofs.PackedLaws.{made_own, made_seen}
use Rattle.jc_exec.proofs.bits.Bits.of_bytes.Goals as goal

pub invariant_of-result : goal.invariant_of-result
invariant_of-result c = made_own c.args.count (unpack c.args.count c.args.bytes.now) c.in_ok-own_bytes.field-0.items
    c.in_ok-own_bytes.ensures (sym (length_unpack c.args.count c.args.bytes.now))

pub returns : goal.returns
returns c = made_seen c.args.count (unpack c.args.count c.args.bytes.now) c.in_ok-own_bytes.field-0.items
    c.in_ok-own_bytes.ensures (sym (length_unpack c.args.count c.args.bytes.now))
