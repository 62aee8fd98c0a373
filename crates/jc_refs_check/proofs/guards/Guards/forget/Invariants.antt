use Rattle.std.proofs.Common.{◌≡◌, length, drop}
use Rattle.jc_refs_check.proofs.RowsLaws.{IsToForget}
use Rattle.jc_refs_check.proofs.guards.Guards.forget.Given as goal

-- the further rows want each class for which something is reached
abbrev pub invariant-forgetting : goal.invariant-forgetting
invariant-forgetting l = record {
  room : length l.reached.items ≡ length l.fn.reached.items;
  left : IsToForget l.self.classes.now.names l.self.body.now.frames l.slot (drop l.guard-index l.self.rows.now) l.reached.items;
}
