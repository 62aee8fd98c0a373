use Rattle.std.proofs.Common.{◌<◌, Some, length, nat_eq, sym, ◌∙◌, ap, arith}
use Rattle.std.specs.Map.{lookup}
use Rattle.jc_exec.specs.declared.hits.ClassHits.{ClassHits}
use Rattle.jc_exec.specs.Rows.{hits_at, end_of}
use Rattle.jc_exec.proofs.PackedRecordLaws.{row_none, row_found}
use Rattle.jc_exec.proofs.RowLaws.{laid_at}
use Rattle.jc_exec.proofs.packed_records.PackedRecords.get.Goals as goal

pub hits_at-requires : goal.hits_at-requires
hits_at-requires c =
    let row = c.index.result.now in
    let lt : c.in-Some.place < length c.self.inside.rows.items = omega (arith, c.in-Some.ensures.place.0, c.len.ensures) in
    let laid = laid_at 0 (length c.self.inside.bytes.items) c.in-Some.place c.self.inside.rows.items row c.self.invariant.laid lt in
    omega (arith, laid.1, ap end_of c.index.ensures, ap length c.deref.ensures.value)

pub returns-in-None : goal.returns-in-None
returns-in-None c =
    sym (row_none c.self.inside.bytes.items c.self.inside.ids c.self.inside.rows.items c.self.invariant c.args.id c.place_of.result
    (λ k lt same. c.place_of.ensures.only k (omega (arith, lt, c.len.ensures)) same) c.in-None.is)
    ∙ ap (lookup (nat_eq c.args.id)) c.self.view_is

pub returns-in_ok-hits_at-in-Some : goal.returns-in_ok-hits_at-in-Some
returns-in_ok-hits_at-in-Some c =
    let bytes = c.self.inside.bytes.items in let ids = c.self.inside.ids in let rows = c.self.inside.rows.items in
    let row = c.index.result.now in
    let lt : c.in-Some.place < length c.self.inside.rows.items = omega (arith, c.in-Some.ensures.place.0, c.len.ensures) in
    ap (λ (h : ClassHits). Some h) (c.in_ok-hits_at-in-Some.ensures ∙ (λ i. hits_at (c.deref.ensures.value i) c.args.id row))
    ∙ sym (row_found bytes ids rows c.self.invariant c.args.id c.place_of.result
    (λ k below same. c.place_of.ensures.only k (omega (arith, below, c.len.ensures)) same) c.in-Some.place row c.in-Some.is lt c.in-Some.ensures.place.1 c.index.ensures)
    ∙ ap (lookup (nat_eq c.args.id)) c.self.view_is
