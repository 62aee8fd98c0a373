use Rattle.std.proofs.Common.{◌≡◌, ◌+◌, length, take}
use Rattle.jc_refs_check.proofs.FurtherLaws.{AreKept}
use Rattle.jc_refs_check.proofs.guards.further_guards.Given as goal

-- the rows that are kept of those so far
abbrev pub invariant-keeping : goal.invariant-keeping
invariant-keeping l = record {
  kept : AreKept (take l.guard-index l.guards) l.kept.items l.ends.items;
  size : length l.ends.items ≡ l.count + 1;
}
