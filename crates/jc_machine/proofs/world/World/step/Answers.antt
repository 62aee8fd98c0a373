use Rattle.std.proofs.Common.{◌≡◌, ◌<◌, List, length, arith, sym, ap, ◌∙◌, subst, refl}
use Rattle.jc_machine_model.specs.Step.{step}
use Rattle.jc_machine.specs.Machines.{Machine, world_of, Fits}
use Rattle.jc_region.specs.Memory.{allocation_of}
use Rattle.jc_machine_turn.specs.Contents.{SharedMemory}
use Rattle.jc_machine.specs.Threads.{FramesMemory}
use Rattle.jc_machine.specs.Kept.{memory_of, machine_of}
use Rattle.jc_machine.specs.Turned.{without_hits}
use Rattle.jc_machine.proofs.MachineLaws.{memories_set, thread_below, alone_fits, runs_at, idle, step_world, step_hits_are}
use Rattle.jc_machine.proofs.world.World.step.Goals as goal

pub bounds : goal.bounds
bounds c = thread_below c.self.inside c.self.invariant c.args.thread
    (subst (λ (m : Machine). c.args.thread < length m.threads) (sym c.self.view_is) c.requires.thread)

pub index_mut-frames-requires : goal.index_mut-frames-requires
index_mut-frames-requires c =
    let less = thread_below c.self.inside c.self.invariant c.args.thread
    (subst (λ (m : Machine). c.args.thread < length m.threads) (sym c.self.view_is) c.requires.thread) in
    let many = c.self.invariant.stacks in
    omega (arith, less, many)

pub bounds-self-inside-t : goal.bounds-self-inside-t
bounds-self-inside-t c =
    thread_below c.self.inside c.self.invariant c.args.thread (subst (λ (m : Machine). c.args.thread < length m.threads) (sym c.self.view_is) c.requires.thread)

pub turn_thread-turn-requires-clause-fits : goal.turn_thread-turn-requires-clause-fits
turn_thread-turn-requires-clause-fits c =
    let less = subst (λ (m : Machine). c.args.thread < length m.threads) (sym c.self.view_is) c.requires.thread in
    let fits = subst (Fits c.args.program.now) (sym c.self.view_is) c.requires.fits in
    alone_fits c.args.program.now (world_of (machine_of c.self.inside)) c.args.thread c.index_mut-frames.result.now fits.world
    (runs_at c.self.inside c.self.invariant c.args.thread less c.index_mut-frames.result.now c.in-Running.is c.index_mut-frames.ensures.value)

pub returns-in-Running-clause-world : goal.returns-in-Running-clause-world
returns-in-Running-clause-world c =
    let less = subst (λ (m : Machine). c.args.thread < length m.threads) (sym c.self.view_is) c.requires.thread in
    step_world c.self.inside c.self.invariant c.args.thread less c.args.program.now c.index_mut-frames.result.now c.in-Running.is
    c.index_mut-frames.ensures.value c.turn_thread-turn.result c.turn_thread-turn.new.frames
    c.turn_thread-turn.new.shared.content c.turn_thread-turn.ensures.turn
    ∙ ap (λ (m : Machine). without_hits (step c.args.program.now (world_of m) c.args.thread)) c.self.view_is

pub returns-in-Running-clause-hits : goal.returns-in-Running-clause-hits
returns-in-Running-clause-hits c =
    let less = subst (λ (m : Machine). c.args.thread < length m.threads) (sym c.self.view_is) c.requires.thread in
    step_hits_are c.self.inside c.self.invariant c.args.thread less c.args.program.now c.index_mut-frames.result.now c.in-Running.is
    c.index_mut-frames.ensures.value c.turn_thread-turn.result c.turn_thread-turn.new.frames
    c.turn_thread-turn.new.shared.content c.turn_thread-turn.ensures.turn
    ∙ ap (λ (m : Machine). (step c.args.program.now (world_of m) c.args.thread).hits) c.self.view_is

pub returns-in-Running-clause-memory : goal.returns-in-Running-clause-memory
returns-in-Running-clause-memory c =
    let w = c.self.inside in
    let stacks = memories_set w.stacks.items c.args.thread c.index_mut-frames.result.now c.turn_thread-turn.new.frames
    c.index_mut-frames.ensures.value c.turn_thread-turn.ensures.memory in
    ap (λ (fs : List FramesMemory). record { fields = allocation_of w.fields; stacks = allocation_of w.stacks; frames = fs; shared = c.turn_thread-turn.new.shared.memory })
    stacks
    ∙ (ap (λ (s : SharedMemory). record (memory_of w) { shared = s }) c.turn_thread-turn.ensures.shared_memory
    ∙ ap (λ (m : Machine). m.memory) c.self.view_is)

pub returns : goal.returns
returns c =
    let less = subst (λ (m : Machine). c.args.thread < length m.threads) (sym c.self.view_is) c.requires.thread in
    let same : step c.args.program.now (world_of c.args.self.now) c.args.thread ≡ world_of c.args.self.now =
    subst (λ (m : Machine). step c.args.program.now (world_of m) c.args.thread ≡ world_of m) c.self.view_is
    (idle c.self.inside c.self.invariant c.args.thread less c.args.program.now c.in_default.not-Running) in
    record { world = sym (ap without_hits same); hits = sym (ap (λ w. w.hits) same); prepared = refl; fields = refl; memory = refl }
