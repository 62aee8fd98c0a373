use Rattle.std.proofs.Common.{◌-◌, take, ◌∙◌, ap}
use Rattle.jc_monitor_world.proofs.SlotLaws.{closed}
use Rattle.jc_monitor_world.proofs.locks.take_out.Goals as goal

pub returns : goal.returns
returns c = ap (take (c.args.count - 1)) c.copy_within.ensures.after ∙ closed c.args.slots.now c.args.place c.args.count c.requires.place c.requires.count
