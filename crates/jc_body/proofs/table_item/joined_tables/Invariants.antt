use Rattle.std.proofs.Common.{drop}
use Rattle.jc_bytes.specs.Counted.{counted}
use Rattle.jc_body.proofs.TablesLaws.{Joining, texts}
use Rattle.jc_body.proofs.table_item.joined_tables.Given as goal

abbrev pub invariant-joining : goal.invariant-joining
invariant-joining g l = Joining (counted g.I.Item.TableItem.form) (texts l.bodies) l.joined.items (texts (drop l.body-index l.bodies))
