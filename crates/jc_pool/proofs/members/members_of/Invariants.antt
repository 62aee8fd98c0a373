use Rattle.jc_pool.specs.Index.{key_place}
use Rattle.jc_pool.proofs.MemberTableLaws.{MembersRead}
use Rattle.jc_pool.proofs.members.members_of.Given as goal

abbrev pub invariant-reading : goal.invariant-reading
invariant-reading l = MembersRead l.slots l.firsts l.place (key_place l.keys.entries)
