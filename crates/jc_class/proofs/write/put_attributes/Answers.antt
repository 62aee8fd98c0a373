use Rattle.std.proofs.Common.{length, refl}
use Rattle.std.proofs.lemmas.Result.{on_ok_weaker}
use Rattle.jc_class.specs.ClassFormat.{attribute}
use Rattle.jc_class.specs.Writable.{Anything}
use Rattle.jc_class.proofs.WritingLaws.{counted_put}
use Rattle.jc_class.proofs.write.put_attributes.Goals as goal

pub returns : goal.returns
returns c =
    on_ok_weaker c.put_listed_attributes.result
    (λ listed. counted_put (attribute Anything) (length c.args.attributes.now) c.args.attributes.now c.args.into.now.items c.put_u16.new.into.items
    c.put_listed_attributes.new.into.items refl c.in_ok-put_u16.ensures.ok listed)
    c.put_listed_attributes.ensures
