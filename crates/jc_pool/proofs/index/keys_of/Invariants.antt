use Rattle.std.proofs.Common.{◌≡◌}
use Rattle.jc_pool.specs.Index.{AreFirsts, key_at, key_place}
use Rattle.jc_pool.proofs.index.keys_of.Given as goal

abbrev pub invariant-reading : goal.invariant-reading
invariant-reading l = (l.place ≡ l.slot-index) × AreFirsts l.slot-index (key_at l.firsts l.slots) (key_place l.keys.entries)
