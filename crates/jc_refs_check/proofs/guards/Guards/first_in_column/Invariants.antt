use Rattle.std.proofs.Common.{take}
use Rattle.jc_refs_check.proofs.RowsLaws.{IsLooking}
use Rattle.jc_refs_check.proofs.guards.Guards.first_in_column.Given as goal

-- the first of the rows so far
abbrev pub invariant-looking : goal.invariant-looking
invariant-looking l =
    IsLooking l.self.classes.now.names l.column.classes.items l.self.body.now.frames l.slot l.bound (take l.guard-index l.self.rows.now) l.first l.fn.reached.items l.reached.items
