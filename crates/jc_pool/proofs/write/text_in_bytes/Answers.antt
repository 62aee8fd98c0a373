use Rattle.jc_pool.proofs.WritingLaws.{pool_small, pool_written}
use Rattle.jc_pool.proofs.write.text_in_bytes.Goals as goal

pub put_slots-requires : goal.put_slots-requires
put_slots-requires c = rw c.slots.ensures.slots (pool_small c.args.pool.now c.slots.ensures.pool)

pub returns : goal.returns
returns c =
    pool_written c.slots.result.now c.args.pool.now c.count.result c.new-text.result.items c.put_u16.new.into.items c.put_slots.new.into.items
    c.new-text.ensures.items c.slots.ensures.slots c.count.ensures c.slots.ensures.pool
    c.in_ok-put_u16.ensures.ok c.in_ok-put_slots.ensures
