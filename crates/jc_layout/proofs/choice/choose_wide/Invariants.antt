use Rattle.std.proofs.Common.{◌-◌, length}
use Rattle.jc_layout.proofs.RoundsLaws.{count}
use Rattle.jc_layout.proofs.KeptLaws.{IsRound}
use Rattle.jc_layout.proofs.choice.choose_wide.Given as goal

-- rounds lead to these wide jumps, and these have no room
abbrev pub invariant-widening : goal.invariant-widening
invariant-widening l = IsRound l.code l.widening l.far.items

-- how many instructions aren't wide
abbrev pub decreases-widening : goal.decreases-widening
decreases-widening l = length l.code - count l.widening.wide.items
