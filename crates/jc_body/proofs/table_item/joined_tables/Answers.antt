use Rattle.std.proofs.Common.{List, ◌++◌, ◌∙◌, ap}
use Rattle.jc_bytes.specs.Counted.{counted}
use Rattle.jc_body.proofs.TablesLaws.{table_joined, table_missing, tables_joined}
use Rattle.jc_body.proofs.table_item.joined_tables.Goals as goal

pub joining-preserved : goal.joining-preserved
joining-preserved g c =
    let text = rw c.in-Some.is at c.in_ok-table.ensures in
    let items = c.in_ok-extend_from_slice-in-Some.ensures.items ∙ ap (λ (l : List g.row.I-Item.Denot). c.joining.joined.items ++ l) c.deref.ensures in
    table_joined (counted g.I.Item.TableItem.form) c.args.bodies.now c.joining.joined.items c.in-Some.table c.extend_from_slice.new.self.items
    c.joining.body-index _ c.joining-test.true text items c.joining.invariant

pub returns-in-None : goal.returns-in-None
returns-in-None g c =
    let none = rw c.in-None.is at c.in_ok-table.ensures in
    table_missing (counted g.I.Item.TableItem.form) c.args.bodies.now c.joining.joined.items c.joining.body-index _ c.joining-test.true none c.joining.invariant

pub returns : goal.returns
returns g c = rw c.from_vec.ensures (tables_joined (counted g.I.Item.TableItem.form) c.args.bodies.now c.joining.joined.items c.joining.body-index c.joining-test.false c.joining.invariant)
