use Rattle.jc_exec.proofs.FinishLaws.{seen_as}
use Rattle.jc_exec.proofs.packed_feed.PackedFeed.feed.Goals as goal

pub returns-clause-stands : goal.returns-clause-stands
returns-clause-stands c = λ before bytes f. c.in_ok-state.ensures.stands before bytes (seen_as _ c.args.self c.self.view_is before bytes f)
