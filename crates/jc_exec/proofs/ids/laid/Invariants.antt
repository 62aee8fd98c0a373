use Rattle.std.proofs.Common.{◌<◌, length}
use Rattle.jc_exec.specs.Places.{window, ReachesAll}
use Rattle.jc_exec.proofs.ids.laid.Given as goal

-- the ids so far are found
abbrev pub invariant-laying : goal.invariant-laying
invariant-laying l = record {
  room : window < length l.slots.items;
  reaches : ReachesAll l.slots.items l.others l.ids l.place;
}
