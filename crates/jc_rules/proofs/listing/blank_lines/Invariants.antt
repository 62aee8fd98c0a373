use Rattle.std.proofs.Common.{◌≡◌, map}
use Rattle.jc_bytes.specs.PlainLists.{numbers_from}
use Rattle.jc_rules.specs.Spans.{blank}
use Rattle.jc_rules.proofs.listing.blank_lines.Given as goal

-- the lines so far stand in the list
abbrev pub invariant-listing : goal.invariant-listing
invariant-listing l = l.list.items ≡ map (blank l.fn.lines.least) (numbers_from 0 l.index)
