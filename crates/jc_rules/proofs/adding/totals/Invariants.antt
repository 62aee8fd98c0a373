use Rattle.jc_rules.proofs.AddingLaws.{Adding}
use Rattle.jc_rules.proofs.adding.totals.Given as goal

-- the classes so far are in the totals
abbrev pub invariant-adding : goal.invariant-adding
invariant-adding l = Adding l.classes l.class-index l.totals
