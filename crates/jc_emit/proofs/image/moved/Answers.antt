use Rattle.std.proofs.Common.{ap}
use Rattle.jc_methods.specs.Slots.{slot_of}
use Rattle.jc_emit.proofs.image.moved.Goals as goal

pub moved_slot-requires : goal.moved_slot-requires
moved_slot-requires c = c.requires c.in-Local.slot (ap slot_of c.in-Local.is)

pub moved_slot-requires-in-Inc : goal.moved_slot-requires-in-Inc
moved_slot-requires-in-Inc c = c.requires c.in-Inc.slot (ap slot_of c.in-Inc.is)
