use Rattle.std.proofs.Common.{◌≤◌, length}
use Rattle.jc_refs_check.specs.Unguarded.{IsNext, AreNext}
use Rattle.jc_refs_check.proofs.columns.next_of.Given as goal

-- those behind
abbrev pub invariant-seeking : goal.invariant-seeking
invariant-seeking l = record {
  within : l.at ≤ length l.classes;
  here : IsNext l.classes l.at l.object;
  behind : AreNext l.classes l.at l.next.items;
}

abbrev pub decreases-seeking : goal.decreases-seeking
decreases-seeking l = l.at
