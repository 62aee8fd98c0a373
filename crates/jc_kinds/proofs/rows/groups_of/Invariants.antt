use Rattle.std.proofs.Common.{◌-◌, length}
use Rattle.jc_kinds.specs.Rows.{rows_of}
use Rattle.jc_kinds.proofs.RowLaws.{AreGroupsSoFar}
use Rattle.jc_kinds.proofs.rows.groups_of.Given as goal

-- the groups of the rows so far
abbrev pub invariant-grouping : goal.invariant-grouping
invariant-grouping l = AreGroupsSoFar l.rows l.at (rows_of l.groups.items)

abbrev pub decreases-grouping : goal.decreases-grouping
decreases-grouping l = length l.rows - l.at
