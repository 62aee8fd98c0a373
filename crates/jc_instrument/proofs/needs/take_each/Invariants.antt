use Rattle.std.proofs.Common.{take}
use Rattle.jc_pool.specs.Adding.{Extends}
use Rattle.jc_instrument.specs.Contents.{TakesEach}
use Rattle.jc_instrument.specs.Needed.{signed_id}
use Rattle.jc_instrument.specs.Taking.{contents_of}
use Rattle.jc_instrument.proofs.needs.take_each.Given as goal

-- the needs so far are taken
abbrev pub invariant-taking : goal.invariant-taking
invariant-taking l = record {
  takes : TakesEach l.fn.pool (contents_of l.owner (signed_id l.id) (take l.need-index l.needs)) l.pool l.places.items;
  extends : Extends l.fn.pool l.pool;
}
