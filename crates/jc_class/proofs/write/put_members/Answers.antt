use Rattle.std.proofs.Common.{length, refl}
use Rattle.std.proofs.lemmas.Result.{on_ok_weaker}
use Rattle.jc_class.specs.ClassFormat.{member}
use Rattle.jc_class.specs.Writable.{Anything}
use Rattle.jc_class.proofs.WritingLaws.{counted_put}
use Rattle.jc_class.proofs.write.put_members.Goals as goal

pub returns : goal.returns
returns c =
    on_ok_weaker c.put_listed_members.result
    (λ listed. counted_put (member Anything Anything) (length c.args.members.now) c.args.members.now c.args.into.now.items c.put_u16.new.into.items
    c.put_listed_members.new.into.items refl c.in_ok-put_u16.ensures.ok listed)
    c.put_listed_members.ensures
