use Rattle.jc_cover.proofs.ClassCountsLaws.{Counting}
use Rattle.jc_cover.proofs.counting.counters.Given as goal

-- what is left to count gives the whole
abbrev pub invariant-counting : goal.invariant-counting
invariant-counting l = Counting l.class.bodies l.coverage.edges l.number l.sums l.lines.all.items l.lines.covered.items
