use Rattle.std.proofs.Common.{length}
use Rattle.jc_kinds.proofs.GuardLaws.{no_slots, next_slot}
use Rattle.jc_kinds.proofs.guarded.first_of_few.Goals as goal

pub slots-init : goal.slots-init
slots-init c = no_slots c.args.states.now c.args.framed.now.body.now.frames c.args.handlers.now (length c.args.states.now) c.args.uncaught c.requires.uncaught

pub slots-preserved : goal.slots-preserved
slots-preserved c =
    next_slot c.args.states.now c.args.framed.now.body.now.frames c.args.handlers.now c.slots.slot (length c.args.states.now) c.slots.first _ c.slots.invariant
    c.first_by_rows-first.ensures
