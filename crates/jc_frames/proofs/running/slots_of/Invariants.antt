use Rattle.std.proofs.Common.{◌≡◌, ◌≤◌, ◌*◌, take}
use Rattle.std.specs.List.{sum_by}
use Rattle.jc_frames.specs.Running.{value_slots}
use Rattle.jc_frames.proofs.running.slots_of.Given as goal

abbrev pub invariant-counting : goal.invariant-counting
invariant-counting l = record {
  slots : l.slots ≡ sum_by value_slots (take l.value-index l.values);
  few : l.slots ≤ 2 * l.value-index;
}
