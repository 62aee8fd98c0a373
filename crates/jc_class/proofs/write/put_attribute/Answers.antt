use Rattle.std.proofs.Common.{ℕ, List, ◌++◌, ap, ◌∙◌}
use Rattle.std.proofs.lemmas.Result.{on_ok_weaker}
use Rattle.jc_class.proofs.WritingLaws.{attribute_put}
use Rattle.jc_class.proofs.write.put_attribute.Goals as goal

pub returns : goal.returns
returns c =
    on_ok_weaker c.put_bytes.result
    (λ body. attribute_put c.args.attribute.now c.len.result c.args.into.now.items c.put_u16.new.into.items c.put_u32.new.into.items
    c.put_bytes.new.into.items c.len.ensures c.in_ok-put_u16.ensures.ok c.in_ok-put_u32.ensures.ok
    (body ∙ ap (λ (l : List ℕ). c.put_u32.new.into.items ++ l) c.deref.ensures))
    c.put_bytes.ensures.ok
