use Rattle.std.proofs.Common.{◌≡◌, map, take, slice_index}
use Rattle.jc_emit.specs.TwinTables.{moved_row}
use Rattle.jc_emit.proofs.tables.moved_rows.Given as goal

-- the rows so far are moved
abbrev pub invariant-moving : goal.invariant-moving
invariant-moving l = l.moved ≡ map (moved_row (slice_index l.leads) (slice_index l.lands)) (take l.row-index l.rows)
