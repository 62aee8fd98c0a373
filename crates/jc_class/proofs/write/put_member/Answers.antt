use Rattle.std.proofs.Common.{List, subst}
use Rattle.std.proofs.lemmas.Result.{on_ok_weaker}
use Rattle.jc_bytes.specs.Appending.{Appended}
use Rattle.jc_class.specs.declared.class_file.Attribute.{Attribute}
use Rattle.jc_bytes.specs.Counted.{counted}
use Rattle.jc_class.specs.ClassFormat.{attribute}
use Rattle.jc_class.specs.Writable.{Anything}
use Rattle.jc_class.proofs.WritingLaws.{member_put}
use Rattle.jc_class.proofs.write.put_member.Goals as goal

pub returns : goal.returns
returns c =
    on_ok_weaker c.put_attributes.result
    (λ attributes. member_put c.args.member.now c.args.into.now.items c.put_u16.new.into.items c.put_u16-2.new.into.items c.put_u16-3.new.into.items
    c.put_attributes.new.into.items c.in_ok-put_u16.ensures.ok c.in_ok-put_u16-2.ensures.ok c.in_ok-put_u16-3.ensures.ok
    (subst (λ (l : List Attribute). Appended (counted (attribute Anything)) l c.put_u16-3.new.into.items c.put_attributes.new.into.items) c.deref.ensures attributes))
    c.put_attributes.ensures
