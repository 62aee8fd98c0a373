use Rattle.std.proofs.Common.{ℕ, List, subst, arith}
use Rattle.std.proofs.lemmas.Result.{on_ok_weaker}
use Rattle.jc_bytes.specs.Appending.{Appends, Appended}
use Rattle.jc_pool.specs.PoolGrammar as pools
use Rattle.jc_class.specs.declared.class_file.Attribute.{Attribute}
use Rattle.jc_class.specs.declared.class_file.Member.{Member}
use Rattle.jc_bytes.specs.Counted.{counted}
use Rattle.jc_bytes.specs.ItemForms.{number_where}
use Rattle.jc_class.specs.ClassFormat.{attribute, member, HasText, HasFieldDescriptor, HasMethodDescriptor}
use Rattle.jc_class.specs.Writable.{Anything}
use Rattle.jc_class.proofs.NamedLaws.{any_members, any_attributes, class_put}
use Rattle.jc_bytes.proofs.OneTextLaws.{items_are_bytes}
use Rattle.jc_class.proofs.write.put_class.Goals as goal

pub put_members-requires : goal.put_members-requires
put_members-requires c =
    let pool = c.args.class.now.pool in
    rw c.deref-2.ensures (any_members (HasText pool) (HasFieldDescriptor pool) c.args.class.now.fields c.requires.fields)

pub put_members-requires-2 : goal.put_members-requires-2
put_members-requires-2 c =
    let pool = c.args.class.now.pool in
    rw c.deref-3.ensures (any_members (HasText pool) (HasMethodDescriptor pool) c.args.class.now.methods c.requires.methods)

pub put_attributes-requires : goal.put_attributes-requires
put_attributes-requires c =
    let pool = c.args.class.now.pool in
    rw c.deref-4.ensures (any_attributes (HasText pool) c.args.class.now.attributes c.requires.attributes)

pub returns-clause-text : goal.returns-clause-text
returns-clause-text c =
    let s7 = c.put_u16-5.new.into.items in
    let s8 = c.put_interfaces.new.into.items in
    let s9 = c.put_members.new.into.items in
    let s10 = c.put_members-2.new.into.items in
    let new = c.put_attributes.new.into.items in
    let pool : Appends (λ text. pools.pool.Text text c.args.class.now.pool) c.put_u16-2.new.into.items c.write.new.into.items = c.in_ok-write.ensures.ok in
    let interfaces = subst (λ (l : List ℕ). Appended (counted (number_where Anything)) l s7 s8) c.deref.ensures c.in_ok-put_interfaces.ensures in
    let fields = subst (λ (l : List Member). Appended (counted (member Anything Anything)) l s8 s9) c.deref-2.ensures c.in_ok-put_members.ensures in
    let methods = subst (λ (l : List Member). Appended (counted (member Anything Anything)) l s9 s10) c.deref-3.ensures c.in_ok-put_members-2.ensures in
    on_ok_weaker c.put_attributes.result
    (λ attributes. class_put c.args.class.now c.requires c.args.into.now.items c.put_u32.new.into.items c.put_u16.new.into.items
    c.put_u16-2.new.into.items c.write.new.into.items c.put_u16-3.new.into.items c.put_u16-4.new.into.items s7 s8 s9 s10 new
    c.in_ok-put_u32.ensures.ok c.in_ok-put_u16.ensures.ok c.in_ok-put_u16-2.ensures.ok pool c.in_ok-put_u16-3.ensures.ok c.in_ok-put_u16-4.ensures.ok c.in_ok-put_u16-5.ensures.ok
    interfaces fields methods (subst (λ (l : List Attribute). Appended (counted (attribute Anything)) l s10 new) c.deref-4.ensures attributes))
    c.put_attributes.ensures

pub returns-clause-bytes : goal.returns-clause-bytes
returns-clause-bytes c = on_ok_weaker c.put_attributes.result (λ _. items_are_bytes c.put_attributes.new.into.items (λ i d within. omega (arith, c.type_inv.into i d within))) c.put_attributes.ensures
