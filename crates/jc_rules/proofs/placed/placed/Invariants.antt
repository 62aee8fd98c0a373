use Rattle.jc_rules.proofs.PlacingLaws.{Placing}
use Rattle.jc_rules.proofs.placed.placed.Given as goal

-- what is left gives the whole
abbrev pub invariant-placing : goal.invariant-placing
invariant-placing l = Placing l.class.bodies l.coverage.edges l.number l.placed.items
