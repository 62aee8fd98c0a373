use Rattle.std.proofs.Common.{◌≡◌, map, take, slice_index}
use Rattle.jc_emit.specs.TwinTables.{moved_line}
use Rattle.jc_emit.proofs.tables.moved_lines.Given as goal

-- the entries so far are moved
abbrev pub invariant-moving : goal.invariant-moving
invariant-moving l = l.moved ≡ map (moved_line (slice_index l.lands)) (take l.line-index l.lines)
