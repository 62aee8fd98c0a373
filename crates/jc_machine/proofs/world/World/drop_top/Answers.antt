use Rattle.std.proofs.Common.{List, sym, ap, ◌∙◌, subst, arith}
use Rattle.jc_machine.specs.Threads.{FramesMemory, ThreadFrames}
use Rattle.jc_machine.specs.Machines.{Machine, Fits}
use Rattle.jc_machine.specs.Kept.{memory_of}
use Rattle.jc_machine_model.specs.Locked.{dropping}
use Rattle.jc_machine.proofs.StandingSeenLaws.{in_ends}
use Rattle.jc_machine.proofs.LockedTurnLaws.{next_fits, next_threads, frames_memory, turn_bounded, drop_runs, drop_world, drop_fine}
use Rattle.jc_machine.proofs.world.World.drop_top.Goals as goal

pub index_mut-requires : goal.index_mut-requires
index_mut-requires c =
    let less = in_ends c.self.inside c.self.invariant c.args.self.now c.self.view_is c.args.thread c.requires.thread in
    let many = c.self.invariant.stacks in
    omega (arith, less, many)

pub drop_top-requires : goal.drop_top-requires
drop_top-requires c =
    (turn_bounded c.self.inside c.self.invariant c.args.self.now c.self.view_is c.args.thread c.requires.thread c.args.program.now c.requires.program
    c.requires.fits c.index_mut.result.now c.index_mut.ensures.value
    (drop_runs c.self.inside c.self.invariant c.args.self.now c.self.view_is c.args.thread c.requires.thread c.args.program.now c.requires.program
    c.requires.fits c.index_mut.result.now c.index_mut.ensures.value c.requires.monitor)).above

pub returns-clause-world : goal.returns-clause-world
returns-clause-world c =
    drop_world c.self.inside c.self.invariant c.args.self.now c.self.view_is c.args.thread c.requires.thread c.args.program.now c.requires.program
    c.requires.fits c.index_mut.result.now c.index_mut.ensures.value c.requires.monitor c.requires.operand c.drop_top.new.self c.drop_top.ensures

pub returns-clause-threads : goal.returns-clause-threads
returns-clause-threads c =
    next_threads c.self.inside c.self.invariant c.args.self.now c.self.view_is c.args.thread c.requires.thread c.args.program.now c.requires.program
    c.requires.fits c.index_mut.result.now c.index_mut.ensures.value dropping _
    (drop_world c.self.inside c.self.invariant c.args.self.now c.self.view_is c.args.thread c.requires.thread c.args.program.now c.requires.program
    c.requires.fits c.index_mut.result.now c.index_mut.ensures.value c.requires.monitor c.requires.operand c.drop_top.new.self c.drop_top.ensures)

pub returns-clause-fits : goal.returns-clause-fits
returns-clause-fits c =
    let whole = subst (Fits c.args.program.now) (sym c.self.view_is) c.requires.fits in
    record {
      prepared = whole.prepared;
      fields = whole.fields;
      world = next_fits c.self.inside c.self.invariant c.args.self.now c.self.view_is c.args.thread c.requires.thread c.args.program.now c.requires.program
          c.requires.fits c.index_mut.result.now c.index_mut.ensures.value dropping _
          (drop_world c.self.inside c.self.invariant c.args.self.now c.self.view_is c.args.thread c.requires.thread c.args.program.now c.requires.program
          c.requires.fits c.index_mut.result.now c.index_mut.ensures.value c.requires.monitor c.requires.operand c.drop_top.new.self c.drop_top.ensures)
          (drop_fine c.self.inside c.self.invariant c.args.self.now c.self.view_is c.args.thread c.requires.thread c.args.program.now c.requires.program
          c.requires.fits c.index_mut.result.now c.index_mut.ensures.value c.requires.monitor);
    }

pub returns-clause-memory : goal.returns-clause-memory
returns-clause-memory c = (
  ap (λ (m : Machine). m.prepared) c.self.view_is,
  ap (λ (fs : List FramesMemory). record (memory_of c.self.inside) { frames = fs })
      (frames_memory c.self.inside c.self.invariant c.args.self.now c.self.view_is c.args.thread c.requires.thread c.args.program.now c.requires.program
      c.requires.fits c.index_mut.result.now c.index_mut.ensures.value c.drop_top.new.self (ap (λ (f : ThreadFrames). f.memory) c.drop_top.ensures))
      ∙ ap (λ (m : Machine). m.memory) c.self.view_is,
)
