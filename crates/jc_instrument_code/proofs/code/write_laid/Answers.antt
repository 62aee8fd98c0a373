use Rattle.std.proofs.Common.{ℕ, List, length, sym, ◌∙◌, subst}
use Rattle.jc_frames.specs.FullTable.{AreShort, CanBeWritten}
use Rattle.jc_instrument_code.specs.LaidText.{tables_seen}
use Rattle.jc_instrument_code.proofs.TwinCodeLaws.{laid_text_parts}
use Rattle.jc_instrument_code.proofs.code.write_laid.Goals as goal

pub put_rows-requires-clause-short : goal.put_rows-requires-clause-short
put_rows-requires-clause-short c = subst AreShort (sym c.as_slice-starts.ensures) c.requires.frames.short

pub put_attributes-requires-clause-written : goal.put_attributes-requires-clause-written
put_attributes-requires-clause-written c =
    let named = c.args.tables.now.frames in
    subst (λ (starts : List ℕ). CanBeWritten starts (length named.names.now) named.frames.now) (sym c.as_slice-starts.ensures) c.requires.frames

pub returns-clause-text : goal.returns-clause-text
returns-clause-text c =
    let t = c.args.tables.now in
    c.from_vec.ensures
    ∙ laid_text_parts c.args.pool.now c.args.fetch (tables_seen t) c.args.laid.now t.frames.names.now c.args.places.now t.frames.frames.now
    c.as_slice-starts.result.now c.deref.result.now c.len.result c.as_slice-starts.ensures
    c.deref.ensures c.len.ensures c.new-text.result.items c.put_sizes.new.into.items c.put_code.new.into.items
    c.put_rows.new.into.items c.put_attributes.new.into.items c.new-text.ensures.items c.in_ok-put_sizes.ensures c.in_ok-put_code.ensures
    c.in_ok-put_rows.ensures c.in_ok-put_attributes.ensures
