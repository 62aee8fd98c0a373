use Rattle.std.proofs.Common.{◌≤◌, length}
use Rattle.jc_kinds.specs.First.{IsFirstOrBound}
use Rattle.jc_refs_check.specs.Unguarded.{IsNothingReached}
use Rattle.jc_refs_check.proofs.UnguardedLaws.{IsUnguardedAt}
use Rattle.jc_refs_check.proofs.handlers.first_unguarded.Given as goal

-- the first by what is caught and by the local variables so far
abbrev pub invariant-slots : goal.invariant-slots
invariant-slots l = record {
  first : IsFirstOrBound (IsUnguardedAt l.guards.classes.now.names l.body l.states l.guards.rows.now l.slot) (length l.states) l.first;
  reached : IsNothingReached l.reached.items;
  room : length l.guards.classes.now.names ≤ length l.reached.items;
}
