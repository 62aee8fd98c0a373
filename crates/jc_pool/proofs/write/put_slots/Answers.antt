use Rattle.jc_pool.proofs.WritingLaws.{writing_begun, next_small, writes_more, all_written}
use Rattle.jc_pool.proofs.write.put_slots.Goals as goal

pub writing-init : goal.writing-init
writing-init c = writing_begun c.args.slots.now c.args.into.now.items c.requires

pub put_slot-requires : goal.put_slot-requires
put_slot-requires c = next_small c.args.slots.now c.writing.slot-index c.slot-item.result c.args.into.now.items c.writing.into.items c.writing-test.true c.slot-item.is c.writing.invariant

pub writing-preserved : goal.writing-preserved
writing-preserved c =
    writes_more c.args.slots.now c.writing.slot-index c.slot-item.result c.args.into.now.items c.writing.into.items c.put_slot.new.into.items
    c.writing-test.true c.slot-item.is c.in_ok-put_slot.ensures c.writing.invariant

pub returns : goal.returns
returns c = all_written c.args.slots.now c.writing.slot-index c.args.into.now.items c.writing.into.items c.writing-test.false c.writing.invariant
