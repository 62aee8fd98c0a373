use Rattle.std.proofs.Common.{take}
use Rattle.jc_rules.specs.Spans.{AreSaid}
use Rattle.jc_rules.proofs.listing.put_lines.Given as goal

-- the statuses of the lines by the instructions so far
abbrev pub invariant-putting : goal.invariant-putting
invariant-putting l = AreSaid (take l.placed-index l.fn.placed) l.least l.list
