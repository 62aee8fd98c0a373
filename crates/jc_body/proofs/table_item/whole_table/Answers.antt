use Rattle.std.proofs.Common.{sym, ◌∙◌}
use Rattle.jc_bytes.specs.Counted.{counted, counted_at}
use Rattle.jc_bytes.proofs.CountedLaws.{agrees_counted}
use Rattle.jc_body.proofs.FormLaws.{read_whole, read_part, read_refused}
use Rattle.jc_body.proofs.table_item.whole_table.Goals as goal
use Rattle.jc_body.proofs.table_item.whole_table.Goals.{then-whole, else-whole}

pub returns-in-Err-Said : goal.returns-in-Err-Said
returns-in-Err-Said g c =
    let form = g.I.Item.TableItem.form in
    let read = g.I.ItemReader.read_at c.args.items.now in
    let agree = agrees_counted form read c.requires.agrees in
    let refused = rw c.in-Err-Said.field-0-is at c.in-Err-Said.ensures.gives in
    read_refused (counted form) (counted_at read) agree c.args.bytes.now c.new-reader.result c.counted.new.reader c.in-Err-Said.field-0-0 c.new-reader.ensures refused

pub returns-after-whole : goal.returns-after-whole
returns-after-whole g c =
    let form = g.I.Item.TableItem.form in
    let read = g.I.ItemReader.read_at c.args.items.now in
    let agree = agrees_counted form read c.requires.agrees in
    let whole = read_whole (counted form) (counted_at read) agree c.args.bytes.now c.new-reader.result c.counted.new.reader c.in-Ok.items
    c.new-reader.ensures c.in-Ok.ensures.end c.in-Ok.ensures.gives in
    let part = read_part (counted form) (counted_at read) agree c.args.bytes.now c.new-reader.result c.counted.new.reader c.in-Ok.items
    c.new-reader.ensures c.in-Ok.ensures.end c.in-Ok.ensures.gives in
    elim c.if-whole.branch [
      | then-whole w ↦ rw w.result-is (whole (sym c.place.ensures ∙ w.if-whole.true))
      | else-whole w ↦ rw w.result-is (part (λ same. w.if-whole.false (c.place.ensures ∙ same)))
    ]
