use Rattle.std.proofs.Common.{sym, ◌∙◌, arith, ◌<◌}
use Rattle.std.proofs.lemmas.List.Sums.{fold_more}
use Rattle.jc_class.specs.ClassId.{after_byte}
use Rattle.jc_class.proofs.RemainderLaws.{table_step}
use Rattle.jc_class.proofs.id.after_bytes.Goals as goal

pub loop-byte-preserved : goal.loop-byte-preserved
loop-byte-preserved c =
    let bytes = c.args.bytes.now in
    let at = c.loop-byte.byte-index in
    let fits : c.from.result < 256 = omega (arith, c.type_inv.bytes at, c.from.ensures) in
    table_step c.args.table.now c.loop-byte.remainder c.from.result fits c.requires
    ∙ (λ i. after_byte (c.loop-byte.invariant i) (c.from.ensures i))
    ∙ sym (fold_more after_byte c.args.start bytes at 0 c.loop-byte-test.true)
