use Rattle.std.proofs.Common.{◌≡◌, map, take, slice_index}
use Rattle.jc_emit.specs.TwinTables.{moved_var}
use Rattle.jc_emit.proofs.tables.moved_vars.Given as goal

-- the variables so far are moved
abbrev pub invariant-moving : goal.invariant-moving
invariant-moving l = l.moved ≡ map (moved_var l.arg_slots (slice_index l.lands)) (take l.var-index l.vars)
