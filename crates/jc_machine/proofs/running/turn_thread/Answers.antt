use Rattle.std.proofs.Common.{List, ap, ◌∙◌}
use Rattle.std.specs.Option.{option_map}
use Rattle.jc_machine_memory.specs.Values.{value_of}
use Rattle.jc_machine_model.specs.World.{Frame, Shared}
use Rattle.jc_machine_model.specs.Step.{after, after_result, left}
use Rattle.jc_machine.proofs.TurnLaws.{waiting_bounded, waiting_counts, still_bounded, called, call_same, call_fits}
use Rattle.jc_machine.proofs.running.turn_thread.Goals as goal

pub call-requires-clause-bounds : goal.call-requires-clause-bounds
call-requires-clause-bounds c =
    still_bounded c.args.program.now c.args.shared.now.content c.args.frames.now c.requires.program c.requires.fits c.act.new.shared.content c.act.new.frames
    c.in-Calls.ensures.shared_kept c.in-Calls.ensures.waiting_kept
    c.in-Calls.ensures.frame_kept

pub call-requires-clause-counted : goal.call-requires-clause-counted
call-requires-clause-counted c =
    waiting_counts c.args.program.now c.args.shared.now.content c.args.frames.now c.requires.program c.requires.fits c.act.new.shared.content c.act.new.frames
    c.in-Calls.ensures.shared_kept c.in-Calls.ensures.waiting_kept

pub call-requires-clause-fits : goal.call-requires-clause-fits
call-requires-clause-fits c =
    call_fits c.args.program.now c.args.shared.now.content c.args.frames.now c.requires.program c.requires.fits c.act.new.shared.content c.act.new.frames
    c.in-Calls.ensures.shared_kept c.in-Calls.ensures.waiting_kept
    c.in-Calls.ensures.frame_kept c.in-Calls.callee
    (called c.args.program.now c.args.shared.now.content c.args.frames.now.top c.in-Calls.callee c.in-Calls.ensures.result.0 c.in-Calls.ensures.result.1
    c.in-Calls.ensures.result.2)

pub leave-requires : goal.leave-requires
leave-requires c =
    waiting_bounded c.args.program.now c.args.shared.now.content c.args.frames.now c.requires.program c.requires.fits c.act.new.shared.content c.act.new.frames
    c.in-Leaves.ensures.shared_kept c.in-Leaves.ensures.waiting_kept

pub raise-requires : goal.raise-requires
raise-requires c =
    still_bounded c.args.program.now c.args.shared.now.content c.args.frames.now c.requires.program c.requires.fits c.act.new.shared.content c.act.new.frames
    c.in-Raises.ensures.shared_kept c.in-Raises.ensures.waiting_kept
    c.in-Raises.ensures.frame_kept

pub throw-requires : goal.throw-requires
throw-requires c =
    still_bounded c.args.program.now c.args.shared.now.content c.args.frames.now c.requires.program c.requires.fits c.act.new.shared.content c.act.new.frames
    c.in-Throws.ensures.shared_kept c.in-Throws.ensures.waiting_kept
    c.in-Throws.ensures.frame_kept

pub returns-in-Calls-clause-turn : goal.returns-in-Calls-clause-turn
returns-in-Calls-clause-turn c =
    c.call.ensures.turn
    ∙ call_same c.args.program.now c.args.shared.now.content c.args.frames.now c.requires.program c.requires.fits c.act.new.shared.content c.act.new.frames
    c.in-Calls.ensures.shared_kept c.in-Calls.ensures.waiting_kept
    c.in-Calls.ensures.frame_kept c.in-Calls.callee
    (called c.args.program.now c.args.shared.now.content c.args.frames.now.top c.in-Calls.callee c.in-Calls.ensures.result.0 c.in-Calls.ensures.result.1
    c.in-Calls.ensures.result.2)

pub returns-in-Leaves-clause-turn : goal.returns-in-Leaves-clause-turn
returns-in-Leaves-clause-turn c =
    let program = c.args.program.now in
    let s = c.args.shared.now.content in
    let frames = c.args.frames.now in
    let v = option_map value_of c.in-Leaves.value in
    c.leave.ensures.turn c.act.new.shared.content
    ∙ (ap (λ (w : List Frame). after (left v w) c.act.new.shared.content) c.in-Leaves.ensures.waiting_kept
    ∙ (ap (λ (x : Shared). after (left v frames.waiting) x) c.in-Leaves.ensures.shared_kept
    ∙ ap (λ r. after_result program r s frames.top frames.waiting) c.in-Leaves.ensures.result))
