use Rattle.std.proofs.Common.{◌≡◌, map, take}
use Rattle.jc_machine_code.specs.Prepared.{value_of as first_value_of}
use Rattle.jc_machine_memory.specs.Values.{value_of}
use Rattle.jc_machine_turn.proofs.first.set_values.Given as goal

abbrev pub invariant-loop-i : goal.invariant-loop-i
invariant-loop-i l = map value_of (take l.i l.values) ≡ map first_value_of (take l.i l.first)
