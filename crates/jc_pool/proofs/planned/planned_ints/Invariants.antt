use Rattle.std.proofs.Common.{◌≡◌, ◌+◌, ◌≤◌, length}
use Rattle.jc_pool.specs.Adding.{AreSameInts}
use Rattle.jc_pool.specs.Pool.{PoolValue}
use Rattle.jc_pool.proofs.PlannedLaws.{IntsSoFar}
use Rattle.jc_pool.proofs.planned.planned_ints.Given as goal

abbrev pub invariant-planning : goal.invariant-planning
invariant-planning l =
    (l.count ≤ l.start + l.number)
    × ((old : PoolValue) → AreSameInts l.slots old → length old ≡ l.start → IntsSoFar old l.first l.number l.count l.places.items)
