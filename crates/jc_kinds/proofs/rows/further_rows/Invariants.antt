use Rattle.std.proofs.Common.{take}
use Rattle.jc_kinds.proofs.RowLaws.{AreKept}
use Rattle.jc_kinds.proofs.rows.further_rows.Given as goal

-- the rows that are kept of those so far
abbrev pub invariant-keeping : goal.invariant-keeping
invariant-keeping l = AreKept (take l.row-index l.rows) l.kept.items l.reached
