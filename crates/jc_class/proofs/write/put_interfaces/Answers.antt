use Rattle.std.proofs.Common.{length, refl}
use Rattle.std.proofs.lemmas.Result.{on_ok_weaker}
use Rattle.jc_bytes.specs.ItemForms.{number_where}
use Rattle.jc_class.specs.Writable.{Anything}
use Rattle.jc_class.proofs.WritingLaws.{counted_put}
use Rattle.jc_class.proofs.write.put_interfaces.Goals as goal

pub returns : goal.returns
returns c =
    on_ok_weaker c.put_listed_interfaces.result
    (λ listed. counted_put (number_where Anything) (length c.args.interfaces.now) c.args.interfaces.now c.args.into.now.items
    c.put_u16.new.into.items c.put_listed_interfaces.new.into.items refl c.in_ok-put_u16.ensures.ok listed)
    c.put_listed_interfaces.ensures
