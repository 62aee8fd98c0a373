use Rattle.std.proofs.Common.{length, ◌≤◌}
use Rattle.jc_kinds.specs.Runs.{AreEnds}
use Rattle.jc_kinds.proofs.runs.run_ends.Given as goal

-- the ends from `i` on are listed
abbrev pub invariant-ending : goal.invariant-ending
invariant-ending l = record { ends : AreEnds l.loose l.column l.i l.ends.items; small : l.i ≤ length l.column }

abbrev pub decreases-ending : goal.decreases-ending
decreases-ending l = l.i
