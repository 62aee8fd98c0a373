use Rattle.jc_plan.proofs.PlacesLaws.{puts_place}
use Rattle.jc_rules.specs.Spans.{blank}
use Rattle.jc_rules.proofs.listing.blank_lines.Goals as goal

pub listing-preserved : goal.listing-preserved
listing-preserved c =
    puts_place (blank c.args.lines.least) c.listing.index c.listing.list.items c.push.new.self.items c.listing.invariant c.in_ok-push.ensures.items
