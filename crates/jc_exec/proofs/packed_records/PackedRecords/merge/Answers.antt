use Rattle.std.proofs.Common.{◌≡◌, ◌<◌, ◌≤◌, ℕ, List, Some, length, slice_index, nat_eq, refl, sym, ◌∙◌, ap, subst, arith}
use Rattle.std.specs.Map.{lookup, set_value}
use Rattle.jc_exec.specs.Adding.{Entries}
use Rattle.jc_exec.specs.Rows.{hits_at, hits_of, end_of, TakesIn}
use Rattle.jc_exec.specs.Store.{entries_of}
use Rattle.jc_exec.proofs.EntriesLaws.{if_none, place_set}
use Rattle.jc_exec.proofs.PackedLaws.{written_back}
use Rattle.jc_exec.proofs.PackedRecordLaws.{row_place, row_none, row_found, taken}
use Rattle.jc_exec.proofs.RowLaws.{laid_at}
use Rattle.jc_exec.proofs.packed_records.PackedRecords.merge.Goals as goal

pub returns-in_err-place-clause-none : goal.returns-in_err-place-clause-none
returns-in_err-place-clause-none c =
    if_none c.from_residual.result _ (
      sym (ap (lookup (nat_eq c.args.hits.now.id)) c.self.view_is)
          ∙ row_none c.self.inside.bytes.items c.self.inside.ids c.self.inside.rows.items c.self.invariant c.args.hits.now.id c.place_of.result
          (λ k lt same. c.place_of.ensures.only k (omega (arith, lt, c.len.ensures)) same) c.in_err-place.was,
      refl,
    )

pub merge_at-requires-clause-room : goal.merge_at-requires-clause-room
merge_at-requires-clause-room c =
    let row = c.index.result.now in
    let lt : c.in_ok-place.place < length c.self.inside.rows.items = omega (arith, c.in_ok-place.ensures.place.0, c.len.ensures) in
    let laid = laid_at 0 (length c.self.inside.bytes.items) c.in_ok-place.place c.self.inside.rows.items row c.self.invariant.laid lt in
    omega (arith, laid.1, ap end_of c.index.ensures, ap length c.deref_mut.ensures.value)

pub returns-clause-some : goal.returns-clause-some
returns-clause-some c =
    let bytes = c.self.inside.bytes.items in let ids = c.self.inside.ids in let rows = c.self.inside.rows.items in
    let hits = c.args.hits.now in
    let row = c.index.result.now in
    let place = c.in_ok-place.place in
    let lt : place < length rows = omega (arith, c.in_ok-place.ensures.place.0, c.len.ensures) in
    let is = c.in_ok-place.ensures.place.1 in
    let laid = laid_at 0 (length bytes) place rows row c.self.invariant.laid lt in
    let room : end_of row ≤ length bytes = omega (arith, laid.1, ap end_of c.index.ensures) in
    let only : (k : ℕ) → k < length rows → slice_index ids k ≡ hits.id → c.place_of.result ≡ Some k =
    λ k below same. c.place_of.ensures.only k (omega (arith, below, c.len.ensures)) same in
    let t = taken bytes ids rows c.self.invariant hits place row lt is c.index.ensures room c.merge_at.result c.merge_at.new.bytes
    (subst (λ (l : List ℕ). TakesIn c.merge_at.result l c.merge_at.new.bytes row hits) c.deref_mut.ensures.value c.merge_at.ensures) in
    let at = row_place bytes ids rows c.self.invariant hits.id c.place_of.result only place c.in_ok-place.was lt is in (
      hits_at bytes hits.id row,
      t.v,
      ap (lookup (nat_eq hits.id)) (sym c.self.view_is)
          ∙ row_found bytes ids rows c.self.invariant hits.id c.place_of.result only place row c.in_ok-place.was lt is c.index.ensures,
      t.merges,
      ap (λ (l : List ℕ). entries_of (hits_of l ids rows)) (written_back c.self.inside.bytes.len c.merge_at.new.bytes bytes (omega arith) t.size)
          ∙ ap entries_of t.is ∙ place_set (hits_of bytes ids rows) hits.id place t.v at t.same_id ∙ ap (λ (es : Entries). set_value (nat_eq hits.id) es t.v) c.self.view_is,
    )
