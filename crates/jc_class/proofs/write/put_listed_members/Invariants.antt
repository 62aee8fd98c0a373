use Rattle.jc_class.specs.ClassFormat.{member}
use Rattle.jc_class.specs.Writable.{Anything, IsMember}
use Rattle.jc_class.proofs.WritingLaws.{Puts}
use Rattle.jc_class.proofs.write.put_listed_members.Given as goal

abbrev pub invariant-writing : goal.invariant-writing
invariant-writing l = Puts (IsMember Anything Anything) (member Anything Anything) l.members l.member-index l.fn.into.items l.into.items
