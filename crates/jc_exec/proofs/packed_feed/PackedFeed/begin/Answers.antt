use Rattle.std.proofs.Common.{[], subst}
use Rattle.jc_exec.specs.Feeding.{feed_of, Feeds}
use Rattle.jc_exec.specs.Store.{Store}
use Rattle.jc_exec.proofs.packed_feed.PackedFeed.begin.Goals as goal

pub returns : goal.returns
returns c = subst (λ (s : Store). Feeds (feed_of (λ a. record { sessions = a.sessions; records = a.records }) 0 c.begun.result) s [])
    c.into_added-added.ensures.store c.begun.ensures.stands
