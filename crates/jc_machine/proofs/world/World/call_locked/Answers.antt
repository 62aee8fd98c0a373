use Rattle.std.proofs.Common.{List, sym, ap, ◌∙◌, subst, arith}
use Rattle.jc_machine_turn.specs.Contents.{SharedMemory}
use Rattle.jc_machine.specs.Threads.{FramesMemory}
use Rattle.jc_machine.specs.Machines.{Machine, Fits}
use Rattle.jc_machine.specs.Kept.{memory_of}
use Rattle.jc_machine_model.specs.Locked.{calling}
use Rattle.jc_machine.proofs.StandingSeenLaws.{in_ends}
use Rattle.jc_machine.proofs.LockedTurnLaws.{next_fits, next_threads, frames_memory, turn_bounded, call_runs, no_call, call_counted, call_fitting, call_world, call_fine}
use Rattle.jc_machine.proofs.world.World.call_locked.Goals as goal

pub index_mut-frames-requires : goal.index_mut-frames-requires
index_mut-frames-requires c =
    let less = in_ends c.self.inside c.self.invariant c.args.self.now c.self.view_is c.args.thread c.requires.thread in
    let many = c.self.invariant.stacks in
    omega (arith, less, many)

pub bounds-self-inside-t : goal.bounds-self-inside-t
bounds-self-inside-t c = in_ends c.self.inside c.self.invariant c.args.self.now c.self.view_is c.args.thread c.requires.thread

pub call-turn-requires-clause-bounds : goal.call-turn-requires-clause-bounds
call-turn-requires-clause-bounds c =
    turn_bounded c.self.inside c.self.invariant c.args.self.now c.self.view_is c.args.thread c.requires.thread c.args.program.now c.requires.program
    c.requires.fits c.index_mut-frames.result.now c.index_mut-frames.ensures.value
    (call_runs c.self.inside c.self.invariant c.args.self.now c.self.view_is c.args.thread c.requires.thread c.args.program.now c.requires.program
    c.requires.fits c.index_mut-frames.result.now c.index_mut-frames.ensures.value c.requires.callee)

pub call-turn-requires-clause-counted : goal.call-turn-requires-clause-counted
call-turn-requires-clause-counted c =
    call_counted c.self.inside c.self.invariant c.args.self.now c.self.view_is c.args.thread c.requires.thread c.args.program.now c.requires.program
    c.requires.fits c.index_mut-frames.result.now c.index_mut-frames.ensures.value c.requires.callee

pub call-turn-requires-clause-fits : goal.call-turn-requires-clause-fits
call-turn-requires-clause-fits c =
    let whole = subst (Fits c.args.program.now) (sym c.self.view_is) c.requires.fits in
    call_fitting c.self.inside c.self.invariant c.args.self.now c.self.view_is c.args.thread c.requires.thread c.args.program.now c.requires.program
    c.requires.fits c.index_mut-frames.result.now c.index_mut-frames.ensures.value c.requires.callee c.in-Some.callee
    (sym (c.in-Some.ensures c.args.program.now whole.prepared))

pub returns-in-Some-clause-world : goal.returns-in-Some-clause-world
returns-in-Some-clause-world c =
    let whole = subst (Fits c.args.program.now) (sym c.self.view_is) c.requires.fits in
    call_world c.self.inside c.self.invariant c.args.self.now c.self.view_is c.args.thread c.requires.thread c.args.program.now c.requires.program
    c.requires.fits c.index_mut-frames.result.now c.index_mut-frames.ensures.value c.requires.callee c.in-Some.callee
    (sym (c.in-Some.ensures c.args.program.now whole.prepared)) c.call-turn.result c.call-turn.new.frames c.call-turn.new.shared.content
    c.call-turn.ensures.turn

pub returns-in-Some-clause-threads : goal.returns-in-Some-clause-threads
returns-in-Some-clause-threads c =
    let whole = subst (Fits c.args.program.now) (sym c.self.view_is) c.requires.fits in
    next_threads c.self.inside c.self.invariant c.args.self.now c.self.view_is c.args.thread c.requires.thread c.args.program.now c.requires.program
    c.requires.fits c.index_mut-frames.result.now c.index_mut-frames.ensures.value (calling c.args.program.now) _
    (call_world c.self.inside c.self.invariant c.args.self.now c.self.view_is c.args.thread c.requires.thread c.args.program.now c.requires.program
    c.requires.fits c.index_mut-frames.result.now c.index_mut-frames.ensures.value c.requires.callee c.in-Some.callee
    (sym (c.in-Some.ensures c.args.program.now whole.prepared)) c.call-turn.result c.call-turn.new.frames c.call-turn.new.shared.content
    c.call-turn.ensures.turn)

pub returns-in-Some-clause-fits : goal.returns-in-Some-clause-fits
returns-in-Some-clause-fits c =
    let whole = subst (Fits c.args.program.now) (sym c.self.view_is) c.requires.fits in
    let fine = call_fine c.self.inside c.self.invariant c.args.self.now c.self.view_is c.args.thread c.requires.thread c.args.program.now c.requires.program
    c.requires.fits c.index_mut-frames.result.now c.index_mut-frames.ensures.value c.requires.callee in
    let world = next_fits c.self.inside c.self.invariant c.args.self.now c.self.view_is c.args.thread c.requires.thread c.args.program.now c.requires.program
    c.requires.fits c.index_mut-frames.result.now c.index_mut-frames.ensures.value (calling c.args.program.now) _
    (call_world c.self.inside c.self.invariant c.args.self.now c.self.view_is c.args.thread c.requires.thread c.args.program.now c.requires.program
    c.requires.fits c.index_mut-frames.result.now c.index_mut-frames.ensures.value c.requires.callee c.in-Some.callee
    (sym (c.in-Some.ensures c.args.program.now whole.prepared)) c.call-turn.result c.call-turn.new.frames c.call-turn.new.shared.content
    c.call-turn.ensures.turn) fine in
    record { prepared = whole.prepared; fields = whole.fields; world = world }

pub returns-in-Some-clause-memory : goal.returns-in-Some-clause-memory
returns-in-Some-clause-memory c = (
  ap (λ (m : Machine). m.prepared) c.self.view_is,
  ap (λ (fs : List FramesMemory). record (memory_of c.self.inside) { frames = fs; shared = c.call-turn.new.shared.memory })
      (frames_memory c.self.inside c.self.invariant c.args.self.now c.self.view_is c.args.thread c.requires.thread c.args.program.now c.requires.program
      c.requires.fits c.index_mut-frames.result.now c.index_mut-frames.ensures.value
      c.call-turn.new.frames c.call-turn.ensures.memory)
      ∙ (ap (λ (s : SharedMemory). record (memory_of c.self.inside) { shared = s }) c.call-turn.ensures.shared_memory
      ∙ ap (λ (m : Machine). m.memory) c.self.view_is),
)

pub returns-in-None-clause-world : goal.returns-in-None-clause-world
returns-in-None-clause-world c =
    let whole = subst (Fits c.args.program.now) (sym c.self.view_is) c.requires.fits in
    absurd (no_call c.self.inside c.self.invariant c.args.self.now c.self.view_is c.args.thread c.requires.thread c.args.program.now c.requires.program
    c.requires.fits c.index_mut-frames.result.now c.index_mut-frames.ensures.value c.requires.callee
    (sym (c.in-None.ensures c.args.program.now whole.prepared)))
