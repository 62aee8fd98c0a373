use Rattle.std.proofs.Common.{drop}
use Rattle.jc_pool.proofs.WritingLaws.{Writing}
use Rattle.jc_pool.proofs.write.put_slots.Given as goal

abbrev pub invariant-writing : goal.invariant-writing
invariant-writing l = Writing l.slots (drop l.slot-index l.slots) l.fn.into.items l.into.items
