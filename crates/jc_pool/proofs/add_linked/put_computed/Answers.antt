use Rattle.jc_pool.specs.Index.{computed}
use Rattle.jc_pool.proofs.AddingLaws.{extends_more}
use Rattle.jc_pool.proofs.LinkedLaws.{computed_put}
use Rattle.jc_pool.proofs.add_linked.put_computed.Goals as goal

pub returns-clause-ok : goal.returns-clause-ok
returns-clause-ok c =
    computed_put c.args.slots.now.items c.add_signature.new.slots.items c.put_behind.new.slots.items (computed c.args.c.now) c.in_ok-name_and_type.name_and_type c.put_behind.result
    c.in_ok-name_and_type.ensures.ok c.put_behind.ensures.ok

pub returns-clause-extends : goal.returns-clause-extends
returns-clause-extends c =
    extends_more c.args.slots.now.items c.add_signature.new.slots.items c.put_behind.new.slots.items c.in_ok-name_and_type.ensures.extends c.put_behind.ensures.extends
