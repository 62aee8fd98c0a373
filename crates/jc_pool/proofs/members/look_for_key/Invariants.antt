use Rattle.std.proofs.Common.{None}
use Rattle.jc_pool.specs.Index.{IsFirstBelow, member_key_at}
use Rattle.jc_pool.proofs.members.look_for_key.Given as goal

abbrev pub invariant-finding : goal.invariant-finding
invariant-finding l = IsFirstBelow l.place (member_key_at l.firsts l.slots) l.key None
