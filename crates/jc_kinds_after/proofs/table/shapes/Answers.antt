use Rattle.std.proofs.Common.{refl}
use Rattle.jc_kinds_after.specs.declared.table.TheConstants.{SHAPES}
use Rattle.jc_kinds_after.specs.Table.{forms_at, table}
use Rattle.jc_kinds_after.proofs.TableLaws.{by_table, past_table}
use Rattle.jc_kinds_after.proofs.table.shapes.Goals as goal

pub returns-then-index-lt202 : goal.returns-then-index-lt202
unfolding forms_at table
returns-then-index-lt202 c = by_table SHAPES c.args.op refl c.if-index-lt202.true

pub returns-else-index-lt202 : goal.returns-else-index-lt202
returns-else-index-lt202 c = past_table c.args.op c.if-index-lt202.false
