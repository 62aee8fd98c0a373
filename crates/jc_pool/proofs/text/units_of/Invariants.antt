use Rattle.std.proofs.Common.{length}
use Rattle.jc_pool.proofs.TextLaws.{UnitsRead}
use Rattle.jc_pool.proofs.text.units_of.Given as goal

abbrev pub invariant-reading : goal.invariant-reading
invariant-reading l = UnitsRead l.fn.modified l.units.items l.rest

abbrev pub decreases-reading : goal.decreases-reading
decreases-reading l = length l.rest
