use Rattle.std.proofs.Common.{◌-◌, length}
use Rattle.jc_pool.specs.PoolReading.{filled_at}
use Rattle.jc_pool.proofs.PoolStepsLaws.{Filling}
use Rattle.jc_pool.proofs.pool.filled.Given as goal

abbrev pub invariant-filling : goal.invariant-filling
invariant-filling l = Filling (filled_at l.fn.count l.fn.reader.left) l.count-2 l.fn.reader l.slots.items l.reader

abbrev pub decreases-filling : goal.decreases-filling
decreases-filling l = l.count-2 - length l.slots.items
