use Rattle.std.proofs.Common.{length, sym, ◌∙◌, ap, subst, arith}
use Rattle.jc_exec.specs.declared.hits.ClassHits.{ClassHits}
use Rattle.jc_exec.specs.Store.{IsSmall}
use Rattle.jc_exec.proofs.BitsLaws.{length_unpack}
use Rattle.jc_exec.proofs.PackedRecordLaws.{small_at, count_taken}
use Rattle.jc_exec.proofs.packed_records.merge_at.Goals as goal

pub merge_into-requires-clause-there : goal.merge_into-requires-clause-there
merge_into-requires-clause-there c = subst IsSmall (sym c.in_ok-there.ensures)
    (small_at c.args.bytes.now c.args.hits.now.id c.args.row c.requires.hits.id (omega arith) (omega arith))

pub put_bits-requires-clause-count : goal.put_bits-requires-clause-count
put_bits-requires-clause-count c = count_taken c.in_ok-there.there c.args.hits.now c.merge_into.new.there c.args.row.count
    c.in_ok-merge_into.ensures.0 c.in_ok-merge_into.ensures.1 (ap (λ (h : ClassHits). length h.bits) c.in_ok-there.ensures ∙ length_unpack c.args.row.count _)
