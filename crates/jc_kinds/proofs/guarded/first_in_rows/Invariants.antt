use Rattle.std.proofs.Common.{◌-◌, ◌≤◌, length}
use Rattle.jc_kinds.proofs.GroupLaws.{FitSoFar}
use Rattle.jc_kinds.proofs.guarded.first_in_rows.Given as goal

-- the types that the rows so far guard fit
abbrev pub invariant-looking : goal.invariant-looking
invariant-looking l = record { within : l.at ≤ length l.rows; fit : FitSoFar l.column.kinds.items l.rows l.want l.bound l.at }

abbrev pub decreases-looking : goal.decreases-looking
decreases-looking l = length l.rows - l.at
