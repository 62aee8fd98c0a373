use Rattle.std.proofs.Common.{◌-◌, length}
use Rattle.jc_refs_check.specs.Unguarded.{IsNothingReached}
use Rattle.jc_refs_check.proofs.handlers.make_room.Given as goal

abbrev pub invariant-growing : goal.invariant-growing
invariant-growing l = IsNothingReached l.reached.items

abbrev pub decreases-growing : goal.decreases-growing
decreases-growing l = l.count - length l.reached.items
