use Rattle.std.proofs.Common.{◌-◌}
use Rattle.jc_exec.specs.Places.{AreTaken}
use Rattle.jc_exec.proofs.ids.free_slot.Given as goal

-- the slots so far are taken
abbrev pub invariant-looking : goal.invariant-looking
invariant-looking l = AreTaken l.slots l.from (l.k - l.from)
