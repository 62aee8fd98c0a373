use Rattle.std.proofs.Common.{◌+◌, ◌-◌, ◌≤◌}
use Rattle.jc_pool.specs.Adding.{Extends}
use Rattle.jc_methods.specs.ProbeMembers.{most_short}
use Rattle.jc_instrument.proofs.TakingLaws.{TakesBelow}
use Rattle.jc_instrument.proofs.needs.take_integers.Given as goal

-- the Integers so far are taken, and there are no more than are asked for
abbrev pub invariant-taking : goal.invariant-taking
invariant-taking l = record {
  takes : TakesBelow l.fn.pool (most_short + 1) l.id l.pool;
  within : l.id - (most_short + 1) ≤ l.fn.count - (most_short + 1);
  extends : Extends l.fn.pool l.pool;
}
