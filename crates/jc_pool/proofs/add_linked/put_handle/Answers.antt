use Rattle.jc_pool.specs.Lookup.{member}
use Rattle.jc_pool.specs.Index.{handle}
use Rattle.jc_pool.proofs.AddingLaws.{same_extends, member_extends, extends_more}
use Rattle.jc_pool.proofs.LinkedLaws.{handle_put}
use Rattle.jc_pool.proofs.add_linked.put_handle.Goals as goal

pub returns-in_err-reference-clause-extends : goal.returns-in_err-reference-clause-extends
returns-in_err-reference-clause-extends c = same_extends c.args.slots.now.items c.add_member.new.slots.items c.in_err-reference.ensures.err

pub returns-clause-ok : goal.returns-clause-ok
returns-clause-ok c =
    handle_put c.args.slots.now.items c.add_member.new.slots.items c.put_behind.new.slots.items (handle c.args.kind (member c.args.m.now)) c.in_ok-reference.reference c.put_behind.result
    c.in_ok-reference.ensures.ok c.put_behind.ensures.ok

pub returns-clause-extends : goal.returns-clause-extends
returns-clause-extends c =
    extends_more c.args.slots.now.items c.add_member.new.slots.items c.put_behind.new.slots.items
    (member_extends c.args.slots.now.items c.add_member.new.slots.items (member c.args.m.now) c.in_ok-reference.reference c.in_ok-reference.ensures.ok) c.put_behind.ensures.extends
