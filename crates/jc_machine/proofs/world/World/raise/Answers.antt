use Rattle.std.proofs.Common.{List, sym, ap, ◌∙◌, subst, arith}
use Rattle.jc_machine_turn.specs.Contents.{SharedMemory}
use Rattle.jc_machine.specs.Threads.{FramesMemory}
use Rattle.jc_machine.specs.Machines.{Machine, Fits}
use Rattle.jc_machine.specs.Kept.{memory_of}
use Rattle.jc_machine_model.specs.Locked.{raising}
use Rattle.jc_machine.proofs.StandingSeenLaws.{in_ends}
use Rattle.jc_machine.proofs.LockedTurnLaws.{next_fits, next_threads, frames_memory, turn_bounded, raise_runs, raise_world, raise_fine}
use Rattle.jc_machine.proofs.world.World.raise.Goals as goal

pub index_mut-frames-requires : goal.index_mut-frames-requires
index_mut-frames-requires c =
    let less = in_ends c.self.inside c.self.invariant c.args.self.now c.self.view_is c.args.thread c.requires.thread in
    let many = c.self.invariant.stacks in
    omega (arith, less, many)

pub bounds-self-inside-t : goal.bounds-self-inside-t
bounds-self-inside-t c = in_ends c.self.inside c.self.invariant c.args.self.now c.self.view_is c.args.thread c.requires.thread

pub raise-turn-requires : goal.raise-turn-requires
raise-turn-requires c =
    turn_bounded c.self.inside c.self.invariant c.args.self.now c.self.view_is c.args.thread c.requires.thread c.args.program.now c.requires.program
    c.requires.fits c.index_mut-frames.result.now c.index_mut-frames.ensures.value
    (raise_runs c.self.inside c.self.invariant c.args.self.now c.self.view_is c.args.thread c.requires.thread c.args.program.now c.requires.program
    c.requires.fits c.index_mut-frames.result.now c.index_mut-frames.ensures.value c.requires.runs)

pub returns-clause-world : goal.returns-clause-world
returns-clause-world c =
    let whole = subst (Fits c.args.program.now) (sym c.self.view_is) c.requires.fits in
    raise_world c.self.inside c.self.invariant c.args.self.now c.self.view_is c.args.thread c.requires.thread c.args.program.now c.requires.program
    c.requires.fits c.index_mut-frames.result.now c.index_mut-frames.ensures.value c.requires.runs c.args.what c.raise-turn.result
    c.raise-turn.new.frames c.raise-turn.new.shared.content (c.raise-turn.ensures.turn c.args.program.now whole.prepared)

pub returns-clause-threads : goal.returns-clause-threads
returns-clause-threads c =
    let whole = subst (Fits c.args.program.now) (sym c.self.view_is) c.requires.fits in
    next_threads c.self.inside c.self.invariant c.args.self.now c.self.view_is c.args.thread c.requires.thread c.args.program.now c.requires.program
    c.requires.fits c.index_mut-frames.result.now c.index_mut-frames.ensures.value (raising c.args.what) _
    (raise_world c.self.inside c.self.invariant c.args.self.now c.self.view_is c.args.thread c.requires.thread c.args.program.now c.requires.program
    c.requires.fits c.index_mut-frames.result.now c.index_mut-frames.ensures.value c.requires.runs c.args.what c.raise-turn.result
    c.raise-turn.new.frames c.raise-turn.new.shared.content (c.raise-turn.ensures.turn c.args.program.now whole.prepared))

pub returns-clause-fits : goal.returns-clause-fits
returns-clause-fits c =
    let whole = subst (Fits c.args.program.now) (sym c.self.view_is) c.requires.fits in
    record {
      prepared = whole.prepared;
      fields = whole.fields;
      world = next_fits c.self.inside c.self.invariant c.args.self.now c.self.view_is c.args.thread c.requires.thread c.args.program.now c.requires.program
          c.requires.fits c.index_mut-frames.result.now c.index_mut-frames.ensures.value (raising c.args.what) _
          (raise_world c.self.inside c.self.invariant c.args.self.now c.self.view_is c.args.thread c.requires.thread c.args.program.now c.requires.program
          c.requires.fits c.index_mut-frames.result.now c.index_mut-frames.ensures.value c.requires.runs c.args.what c.raise-turn.result
          c.raise-turn.new.frames c.raise-turn.new.shared.content (c.raise-turn.ensures.turn c.args.program.now whole.prepared))
          (raise_fine c.self.inside c.self.invariant c.args.self.now c.self.view_is c.args.thread c.requires.thread c.args.program.now c.requires.program
          c.requires.fits c.index_mut-frames.result.now c.index_mut-frames.ensures.value c.requires.runs c.args.what);
    }

pub returns-clause-memory : goal.returns-clause-memory
returns-clause-memory c = (
  ap (λ (m : Machine). m.prepared) c.self.view_is,
  ap (λ (fs : List FramesMemory). record (memory_of c.self.inside) { frames = fs; shared = c.raise-turn.new.shared.memory })
      (frames_memory c.self.inside c.self.invariant c.args.self.now c.self.view_is c.args.thread c.requires.thread c.args.program.now c.requires.program
      c.requires.fits c.index_mut-frames.result.now c.index_mut-frames.ensures.value c.raise-turn.new.frames c.raise-turn.ensures.memory)
      ∙ (ap (λ (s : SharedMemory). record (memory_of c.self.inside) { shared = s }) c.raise-turn.ensures.shared_memory
      ∙ ap (λ (m : Machine). m.memory) c.self.view_is),
)
