use Rattle.jc_rules.proofs.PlacingLaws.{Lining}
use Rattle.jc_rules.proofs.placed.put_insns.Given as goal

-- the instructions so far have their lines
abbrev pub invariant-placing : goal.invariant-placing
invariant-placing l = Lining l.table l.fn.insns l.at l.fn.placed.items l.placed.items l.line
