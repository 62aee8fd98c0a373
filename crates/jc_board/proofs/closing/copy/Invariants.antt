use Rattle.std.proofs.Common.{◌≡◌, ◌<◌, ℕ}
use Rattle.std.specs.Slots.{slots_items}
use Rattle.jc_programs.specs.Probes.{counts_of, IsHit}
use Rattle.jc_programs.specs.Probes.{InRange}
use Rattle.jc_board.specs.Rule.{IsSet}
use Rattle.jc_board.proofs.closing.copy.Given as goal

abbrev pub invariant-loop-class : goal.invariant-loop-class
invariant-loop-class l = (counts_of l.into ≡ l.counts)
    × ((c i : ℕ) → IsHit l.into c i → InRange l.counts c i × IsSet l.counts (slots_items l.closed.words) c i)
    × ((c i : ℕ) → c < l.class → InRange l.counts c i → IsSet l.counts (slots_items l.closed.words) c i → IsHit l.into c i)
