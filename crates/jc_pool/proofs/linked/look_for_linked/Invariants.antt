use Rattle.std.proofs.Common.{None}
use Rattle.jc_pool.specs.Index.{IsFirstBelow, linked_key_at}
use Rattle.jc_pool.proofs.linked.look_for_linked.Given as goal

abbrev pub invariant-finding : goal.invariant-finding
invariant-finding l = IsFirstBelow l.place (linked_key_at l.firsts l.slots) l.key None
