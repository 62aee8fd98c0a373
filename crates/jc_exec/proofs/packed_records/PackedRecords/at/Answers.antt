use Rattle.std.proofs.Common.{◌<◌, List, length, get_or, sym, ◌∙◌, ap, arith}
use Rattle.std.proofs.lemmas.Result.{IfOk-weaker}
use Rattle.jc_exec.specs.declared.hits.ClassHits.{ClassHits}
use Rattle.jc_exec.specs.Rows.{hits_at, hits_of, end_of}
use Rattle.jc_exec.specs.Store.{classes_of}
use Rattle.jc_exec.proofs.EntriesLaws.{classes_are}
use Rattle.jc_exec.proofs.PackedRecordLaws.{entries_size}
use Rattle.jc_exec.proofs.RowLaws.{laid_at, of_at}
use Rattle.jc_exec.proofs.packed_records.PackedRecords.at.Goals as goal

pub at-requires : goal.at-requires
at-requires c =
    let size = entries_size c.self.inside.bytes.items c.self.inside.ids c.self.inside.rows.items c.self.invariant in
    omega (arith, c.requires, size, ap length c.self.view_is, c.self.invariant.known)

pub index-requires : goal.index-requires
index-requires c =
    let size = entries_size c.self.inside.bytes.items c.self.inside.ids c.self.inside.rows.items c.self.invariant in
    omega (arith, c.requires, size, ap length c.self.view_is)

pub hits_at-requires : goal.hits_at-requires
hits_at-requires c =
    let size = entries_size c.self.inside.bytes.items c.self.inside.ids c.self.inside.rows.items c.self.invariant in
    let row = c.index.result.now in
    let lt : c.args.place < length c.self.inside.rows.items = omega (arith, c.requires, size, ap length c.self.view_is) in
    let laid = laid_at 0 (length c.self.inside.bytes.items) c.args.place c.self.inside.rows.items row c.self.invariant.laid lt in
    omega (arith, laid.1, ap end_of c.index.ensures, ap length c.deref.ensures.value)

pub returns : goal.returns
returns c =
    let bytes = c.self.inside.bytes.items in let ids = c.self.inside.ids in let rows = c.self.inside.rows.items in
    let row = c.index.result.now in
    let size = entries_size bytes ids rows c.self.invariant in
    let lt : c.args.place < length c.self.inside.rows.items = omega (arith, c.requires, size, ap length c.self.view_is) in
    IfOk-weaker c.hits_at.result _ _ (λ h is. is ∙ (λ i. hits_at (c.deref.ensures.value i) (c.at.ensures i) (c.index.ensures i))
    ∙ sym (of_at bytes ids rows c.args.place h row lt c.self.invariant.known)
    ∙ ap (λ (l : List ClassHits). get_or l c.args.place h) (sym (classes_are (hits_of bytes ids rows)) ∙ ap classes_of c.self.view_is)) c.hits_at.ensures
