use Rattle.std.proofs.Common.{◌≡◌, map, take}
use Rattle.jc_machine_code.specs.Prepared.{value_of as first_value_of}
use Rattle.jc_machine_memory.specs.Values.{value_of}
use Rattle.jc_machine_turn.proofs.first.class_statics.Given as goal

abbrev pub invariant-loop-value : goal.invariant-loop-value
invariant-loop-value l = map value_of l.values.items ≡ map first_value_of (take l.value-index l.first)
