use Rattle.std.proofs.Common.{◌≡◌, ◌≢◌, ◌<◌, ◌≤◌, true, List, ◌∷◌, length, None, refl, sym, ap, ◌∙◌, subst, arith}
use Rattle.std.proofs.lemmas.Bool.{true≢false}
use Rattle.std.proofs.lemmas.List.{length-set}
use Rattle.jc_region.specs.Memory.{allocation_of}
use Rattle.std.specs.Prelude.{slice_set}
use Rattle.jc_machine_model.specs.World.{Hit}
use Rattle.jc_machine_model.specs.Step.{most_frames, step}
use Rattle.jc_machine_model.specs.Locked.{turn_by, callee, calling}
use Rattle.jc_machine.specs.Machines.{world_of}
use Rattle.jc_machine.specs.Hits.{Gained}
use Rattle.jc_machine.specs.Standings.{callee_in}
use Rattle.jc_monitor_model.specs.Locks.{of_class, access}
use Rattle.jc_monitor_model.specs.MonitorWorld.{MonitorWorld}
use Rattle.jc_monitor_model.specs.MonitorTurns.{calls_locked}
use Rattle.jc_monitor_model.specs.MonitorStep.{depth, is_one_too_many, turned}
use Rattle.jc_monitor_model.specs.SynchronizedFrames.{SynchronizedFrame}
use Rattle.jc_monitor_model.specs.KeptLocks.{MayTake}
use Rattle.jc_monitor_world.specs.Kept.{FramesSeen}
use Rattle.jc_monitor_world.specs.Monitored.{Monitored, monitor_world_of, without_hits, monitored_of}
use Rattle.jc_monitor_world.proofs.MonitoredLaws.{below, in_frames, frames_here, fits_inside, monitored_next, after_turn, nothing_gained, next_memory, no_hits, memories_of}
use Rattle.jc_monitor_world.proofs.InPlaceLaws.{plain_world, called_seen, called_alone, framed, framed_memory, memory_of}
use Rattle.jc_monitor_world.proofs.TurnedLaws.{turn_kept, callee_there, call_without_lock, call_without_frame, call_with_frame, lock_for_frame, frame_fits, calls_moves}
use Rattle.jc_monitor_world.proofs.monitor_world.MonitorWorld.call.Goals as goal
use Rattle.jc_monitor_world.proofs.monitor_world.MonitorWorld.call.Goals.{else-frame_count-lt-MOST_FRAMES-via-then-frame_count-lt-MOST_FRAMES+else-is_one_too_many, else-frame_count-lt-MOST_FRAMES-via-else-frame_count-lt-MOST_FRAMES}

pub turn-requires-clause-fits : goal.turn-requires-clause-fits
turn-requires-clause-fits g c =
    fits_inside c.args.program.now c.self.inside c.args.self.now c.self.view_is c.requires.fits

pub turn-requires-clause-thread : goal.turn-requires-clause-thread
turn-requires-clause-thread g c =
    below c.self.inside c.self.invariant c.args.self.now c.self.view_is c.args.thread c.requires.thread

pub call_locked-requires-clause-fits : goal.call_locked-requires-clause-fits
call_locked-requires-clause-fits g c =
    fits_inside c.args.program.now c.self.inside c.args.self.now c.self.view_is c.requires.fits

pub call_locked-requires-clause-thread : goal.call_locked-requires-clause-thread
call_locked-requires-clause-thread g c =
    below c.self.inside c.self.invariant c.args.self.now c.self.view_is c.args.thread c.requires.thread

pub invariant_of-self : goal.invariant_of-self
invariant_of-self g c =
    monitored_next c.self.inside c.self.invariant c.turn.new.self c.self.inside.locks c.turn.ensures.threads

pub returns-then-is_one_too_many-clause-world : goal.returns-then-is_one_too_many-clause-world
returns-then-is_one_too_many-clause-world g c =
    let program = c.args.program.now in
    let m = c.args.self.now in
    let t = c.args.thread in
    let method = callee_in c.args.callee in
    let many : is_one_too_many m.held (access t (of_class method.class) m.held) ≡ true = sym c.is_one_too_many.ensures ∙ c.if-is_one_too_many.true in
    let few : depth program (world_of m.machine) t < most_frames =
    let same = c.requires.frame_count in let less = c.if-frame_count-lt-MOST_FRAMES.true in omega (arith, same, less) in
    plain_world c.self.inside c.self.invariant c.args.self.now c.self.view_is program t c.turn.new.self c.turn.ensures.threads c.turn.ensures.world
    ∙ sym (ap without_hits (call_without_lock c.args.program.now c.requires.program c.args.self.now c.args.thread c.requires.thread c.requires.fits
    (callee_in c.args.callee) c.requires.turn many few))

pub returns-then-is_one_too_many-clause-hits : goal.returns-then-is_one_too_many-clause-hits
returns-then-is_one_too_many-clause-hits g c =
    let program = c.args.program.now in
    let m = c.args.self.now in
    let t = c.args.thread in
    let method = callee_in c.args.callee in
    let many : is_one_too_many m.held (access t (of_class method.class) m.held) ≡ true = sym c.is_one_too_many.ensures ∙ c.if-is_one_too_many.true in
    let few : depth program (world_of m.machine) t < most_frames =
    let same = c.requires.frame_count in let less = c.if-frame_count-lt-MOST_FRAMES.true in omega (arith, same, less) in
    subst (λ (hs : List Hit). Gained (g.S.ProbeSink.hits c.args.sink.now) hs (g.S.ProbeSink.hits c.turn.new.sink))
    (ap (λ (x : Monitored). (step program (world_of x.machine) t).hits) c.self.view_is
    ∙ sym (ap (λ (n : MonitorWorld). n.world.hits)
    (call_without_lock c.args.program.now c.requires.program c.args.self.now c.args.thread c.requires.thread c.requires.fits
    (callee_in c.args.callee) c.requires.turn many few))) c.turn.ensures.hits

pub returns-then-is_one_too_many-clause-fits : goal.returns-then-is_one_too_many-clause-fits
returns-then-is_one_too_many-clause-fits g c =
    let program = c.args.program.now in
    let m = c.args.self.now in
    let t = c.args.thread in
    let method = callee_in c.args.callee in
    let many : is_one_too_many m.held (access t (of_class method.class) m.held) ≡ true = sym c.is_one_too_many.ensures ∙ c.if-is_one_too_many.true in
    let few : depth program (world_of m.machine) t < most_frames =
    let same = c.requires.frame_count in let less = c.if-frame_count-lt-MOST_FRAMES.true in omega (arith, same, less) in
    after_turn program t (turned program t (monitor_world_of m) (calls_locked method)) _ c.turn.ensures.fits
    (plain_world c.self.inside c.self.invariant c.args.self.now c.self.view_is program t c.turn.new.self c.turn.ensures.threads c.turn.ensures.world
    ∙ sym (ap without_hits (call_without_lock c.args.program.now c.requires.program c.args.self.now c.args.thread c.requires.thread c.requires.fits
    (callee_in c.args.callee) c.requires.turn many few)))
    (turn_kept program c.requires.program m t c.requires.thread c.requires.fits (calls_locked method) c.requires.turn (calls_moves method))

pub returns-then-is_one_too_many-clause-memory : goal.returns-then-is_one_too_many-clause-memory
returns-then-is_one_too_many-clause-memory g c =
    next_memory c.self.inside c.self.invariant c.args.self.now c.self.view_is c.turn.new.self (monitored_of c.self.inside).memory c.turn.ensures.memory refl

pub call_locked-requires-clause-callee : goal.call_locked-requires-clause-callee
call_locked-requires-clause-callee g c =
    let program = c.args.program.now in
    let m = c.args.self.now in
    let t = c.args.thread in
    let method = callee_in c.args.callee in
    subst (λ (x : Monitored). callee program (world_of x.machine) t ≢ None) (sym c.self.view_is)
    (callee_there c.args.program.now c.requires.program c.args.self.now c.args.thread c.requires.thread c.requires.fits
    (callee_in c.args.callee) c.requires.turn)

pub invariant_of-self-2 : goal.invariant_of-self-2
invariant_of-self-2 g c =
    monitored_next c.self.inside c.self.invariant c.call_locked.new.self c.self.inside.locks c.call_locked.ensures.threads

pub depth-deeper-requires : goal.depth-deeper-requires
depth-deeper-requires g c =
    let less = below c.self.inside c.self.invariant c.args.self.now c.self.view_is c.args.thread c.requires.thread in let same
    = c.call_locked.ensures.threads in omega (arith, less, same)

pub take-requires : goal.take-requires
take-requires g c =
    let program = c.args.program.now in
    let m = c.args.self.now in
    let t = c.args.thread in
    let method = callee_in c.args.callee in
    let then : c.depth-deeper.result ≡ depth program (turn_by program (calling program) (world_of m.machine) t) t =
    c.depth-deeper.ensures program c.requires.program c.call_locked.ensures.fits
    ∙ ap (λ w. depth program w t)
    (called_seen c.self.inside c.self.invariant c.args.self.now c.self.view_is program t c.call_locked.new.self c.call_locked.ensures.threads
    c.call_locked.ensures.world) in
    let deeper : depth program (world_of m.machine) t < depth program (turn_by program (calling program) (world_of m.machine) t) t =
    let same = c.requires.frame_count in let less = c.if-frame_count-deeper.true in omega (arith, same, then, less) in
    let full : is_one_too_many m.held (access t (of_class method.class) m.held) ≡ true → most_frames ≤ depth program (world_of m.machine) t =
    elim c.else-frame_count-lt-MOST_FRAMES.branch [
      | else-frame_count-lt-MOST_FRAMES-via-then-frame_count-lt-MOST_FRAMES+else-is_one_too_many w ↦
          λ q. absurd (true≢false (sym q ∙ (sym w.is_one_too_many.ensures ∙ w.if-is_one_too_many.false)))
      | else-frame_count-lt-MOST_FRAMES-via-else-frame_count-lt-MOST_FRAMES w ↦
          λ q. let same = c.requires.frame_count in let more = w.if-frame_count-lt-MOST_FRAMES.false in omega (arith, same, more)
    ] in
    subst (λ (x : Monitored). MayTake (length x.held) (access t (of_class method.class) x.held)) (sym c.self.view_is)
    (lock_for_frame c.args.program.now c.requires.program c.args.self.now c.args.thread c.requires.thread c.requires.fits
    (callee_in c.args.callee) c.requires.turn deeper full)

pub index_mut-requires : goal.index_mut-requires
index_mut-requires g c =
    let less = in_frames c.self.inside c.self.invariant c.args.self.now c.self.view_is c.args.thread c.requires.thread in
    let many = c.self.invariant.frames in
    omega (arith, less, many)

pub enter-requires : goal.enter-requires
enter-requires g c =
    let program = c.args.program.now in
    let m = c.args.self.now in
    let t = c.args.thread in
    let method = callee_in c.args.callee in
    let then : c.depth-deeper.result ≡ depth program (turn_by program (calling program) (world_of m.machine) t) t =
    c.depth-deeper.ensures program c.requires.program c.call_locked.ensures.fits
    ∙ ap (λ w. depth program w t)
    (called_seen c.self.inside c.self.invariant c.args.self.now c.self.view_is program t c.call_locked.new.self c.call_locked.ensures.threads
    c.call_locked.ensures.world) in
    let deeper : depth program (world_of m.machine) t < depth program (turn_by program (calling program) (world_of m.machine) t) t =
    let same = c.requires.frame_count in let less = c.if-frame_count-deeper.true in omega (arith, same, then, less) in
    let full : is_one_too_many m.held (access t (of_class method.class) m.held) ≡ true → most_frames ≤ depth program (world_of m.machine) t =
    elim c.else-frame_count-lt-MOST_FRAMES.branch [
      | else-frame_count-lt-MOST_FRAMES-via-then-frame_count-lt-MOST_FRAMES+else-is_one_too_many w ↦
          λ q. absurd (true≢false (sym q ∙ (sym w.is_one_too_many.ensures ∙ w.if-is_one_too_many.false)))
      | else-frame_count-lt-MOST_FRAMES-via-else-frame_count-lt-MOST_FRAMES w ↦
          λ q. let same = c.requires.frame_count in let more = w.if-frame_count-lt-MOST_FRAMES.false in omega (arith, same, more)
    ] in
    subst (λ (l : List SynchronizedFrame). length l < 128)
    (frames_here c.self.inside c.self.invariant c.args.self.now c.self.view_is t c.requires.thread c.index_mut.result.now c.index_mut.ensures.value)
    (frame_fits c.args.program.now c.requires.program c.args.self.now c.args.thread c.requires.thread c.requires.fits
    (callee_in c.args.callee) c.requires.turn deeper full)

pub invariant_of-self-then-frame_count-deeper : goal.invariant_of-self-then-frame_count-deeper
invariant_of-self-then-frame_count-deeper g c =
    let few = c.self.invariant.few in
    let same = c.call_locked.ensures.threads in
    record { frames = length-set c.self.inside.frames.items c.args.thread c.enter.new.self ∙ c.self.invariant.frames; few = omega (arith, few, same) }

pub invariant_of-self-else-frame_count-deeper : goal.invariant_of-self-else-frame_count-deeper
invariant_of-self-else-frame_count-deeper g c =
    monitored_next c.self.inside c.self.invariant c.call_locked.new.self c.self.inside.locks c.call_locked.ensures.threads

pub returns-then-frame_count-deeper-clause-world : goal.returns-then-frame_count-deeper-clause-world
returns-then-frame_count-deeper-clause-world g c =
    let program = c.args.program.now in
    let m = c.args.self.now in
    let t = c.args.thread in
    let method = callee_in c.args.callee in
    let then : c.depth-deeper.result ≡ depth program (turn_by program (calling program) (world_of m.machine) t) t =
    c.depth-deeper.ensures program c.requires.program c.call_locked.ensures.fits
    ∙ ap (λ w. depth program w t)
    (called_seen c.self.inside c.self.invariant c.args.self.now c.self.view_is program t c.call_locked.new.self c.call_locked.ensures.threads
    c.call_locked.ensures.world) in
    let deeper : depth program (world_of m.machine) t < depth program (turn_by program (calling program) (world_of m.machine) t) t =
    let same = c.requires.frame_count in let less = c.if-frame_count-deeper.true in omega (arith, same, then, less) in
    let full : is_one_too_many m.held (access t (of_class method.class) m.held) ≡ true → most_frames ≤ depth program (world_of m.machine) t =
    elim c.else-frame_count-lt-MOST_FRAMES.branch [
      | else-frame_count-lt-MOST_FRAMES-via-then-frame_count-lt-MOST_FRAMES+else-is_one_too_many w ↦
          λ q. absurd (true≢false (sym q ∙ (sym w.is_one_too_many.ensures ∙ w.if-is_one_too_many.false)))
      | else-frame_count-lt-MOST_FRAMES-via-else-frame_count-lt-MOST_FRAMES w ↦
          λ q. let same = c.requires.frame_count in let more = w.if-frame_count-lt-MOST_FRAMES.false in omega (arith, same, more)
    ] in
    let made : c.enter.new.self.frames ≡ record { depth = depth program (world_of c.call_locked.new.self) t; class = method.class } ∷
    c.index_mut.result.now.frames =
    ap (λ (f : FramesSeen). f.frames) c.enter.ensures
    ∙ ap (λ d. record { depth = d; class = method.class } ∷ c.index_mut.result.now.frames)
    (c.depth-deeper.ensures program c.requires.program c.call_locked.ensures.fits) in
    framed c.self.inside c.self.invariant c.args.self.now c.self.view_is program t c.call_locked.new.self c.call_locked.ensures.threads
    c.call_locked.ensures.world c.requires.thread method c.take.new.self.held
    c.index_mut.result.now c.enter.new.self c.index_mut.ensures.value c.take.ensures.held made
    ∙ sym (ap without_hits
    (call_with_frame c.args.program.now c.requires.program c.args.self.now c.args.thread c.requires.thread c.requires.fits
    (callee_in c.args.callee) c.requires.turn deeper full))

pub returns-then-frame_count-deeper-clause-hits : goal.returns-then-frame_count-deeper-clause-hits
returns-then-frame_count-deeper-clause-hits g c =
    let program = c.args.program.now in
    let m = c.args.self.now in
    let t = c.args.thread in
    let method = callee_in c.args.callee in
    let then : c.depth-deeper.result ≡ depth program (turn_by program (calling program) (world_of m.machine) t) t =
    c.depth-deeper.ensures program c.requires.program c.call_locked.ensures.fits
    ∙ ap (λ w. depth program w t)
    (called_seen c.self.inside c.self.invariant c.args.self.now c.self.view_is program t c.call_locked.new.self c.call_locked.ensures.threads
    c.call_locked.ensures.world) in
    let deeper : depth program (world_of m.machine) t < depth program (turn_by program (calling program) (world_of m.machine) t) t =
    let same = c.requires.frame_count in let less = c.if-frame_count-deeper.true in omega (arith, same, then, less) in
    let full : is_one_too_many m.held (access t (of_class method.class) m.held) ≡ true → most_frames ≤ depth program (world_of m.machine) t =
    elim c.else-frame_count-lt-MOST_FRAMES.branch [
      | else-frame_count-lt-MOST_FRAMES-via-then-frame_count-lt-MOST_FRAMES+else-is_one_too_many w ↦
          λ q. absurd (true≢false (sym q ∙ (sym w.is_one_too_many.ensures ∙ w.if-is_one_too_many.false)))
      | else-frame_count-lt-MOST_FRAMES-via-else-frame_count-lt-MOST_FRAMES w ↦
          λ q. let same = c.requires.frame_count in let more = w.if-frame_count-lt-MOST_FRAMES.false in omega (arith, same, more)
    ] in
    let hits = g.S.ProbeSink.hits c.args.sink.now in
    subst (λ (hs : List Hit). Gained hits hs hits)
    (no_hits c.call_locked.new.self (turn_by program (calling program) (world_of m.machine) t)
    (called_seen c.self.inside c.self.invariant c.args.self.now c.self.view_is program t c.call_locked.new.self c.call_locked.ensures.threads
    c.call_locked.ensures.world)
    ∙ sym (ap (λ (n : MonitorWorld). n.world.hits)
    (call_with_frame c.args.program.now c.requires.program c.args.self.now c.args.thread c.requires.thread c.requires.fits
    (callee_in c.args.callee) c.requires.turn deeper full))) (nothing_gained hits)

pub returns-then-frame_count-deeper-clause-fits : goal.returns-then-frame_count-deeper-clause-fits
returns-then-frame_count-deeper-clause-fits g c =
    let program = c.args.program.now in
    let m = c.args.self.now in
    let t = c.args.thread in
    let method = callee_in c.args.callee in
    let then : c.depth-deeper.result ≡ depth program (turn_by program (calling program) (world_of m.machine) t) t =
    c.depth-deeper.ensures program c.requires.program c.call_locked.ensures.fits
    ∙ ap (λ w. depth program w t)
    (called_seen c.self.inside c.self.invariant c.args.self.now c.self.view_is program t c.call_locked.new.self c.call_locked.ensures.threads
    c.call_locked.ensures.world) in
    let deeper : depth program (world_of m.machine) t < depth program (turn_by program (calling program) (world_of m.machine) t) t =
    let same = c.requires.frame_count in let less = c.if-frame_count-deeper.true in omega (arith, same, then, less) in
    let full : is_one_too_many m.held (access t (of_class method.class) m.held) ≡ true → most_frames ≤ depth program (world_of m.machine) t =
    elim c.else-frame_count-lt-MOST_FRAMES.branch [
      | else-frame_count-lt-MOST_FRAMES-via-then-frame_count-lt-MOST_FRAMES+else-is_one_too_many w ↦
          λ q. absurd (true≢false (sym q ∙ (sym w.is_one_too_many.ensures ∙ w.if-is_one_too_many.false)))
      | else-frame_count-lt-MOST_FRAMES-via-else-frame_count-lt-MOST_FRAMES w ↦
          λ q. let same = c.requires.frame_count in let more = w.if-frame_count-lt-MOST_FRAMES.false in omega (arith, same, more)
    ] in
    let made : c.enter.new.self.frames ≡ record { depth = depth program (world_of c.call_locked.new.self) t; class = method.class } ∷
    c.index_mut.result.now.frames =
    ap (λ (f : FramesSeen). f.frames) c.enter.ensures
    ∙ ap (λ d. record { depth = d; class = method.class } ∷ c.index_mut.result.now.frames)
    (c.depth-deeper.ensures program c.requires.program c.call_locked.ensures.fits) in
    after_turn program t (turned program t (monitor_world_of m) (calls_locked method)) _ c.call_locked.ensures.fits
    (framed c.self.inside c.self.invariant c.args.self.now c.self.view_is program t c.call_locked.new.self c.call_locked.ensures.threads
    c.call_locked.ensures.world c.requires.thread method c.take.new.self.held
    c.index_mut.result.now c.enter.new.self c.index_mut.ensures.value c.take.ensures.held made
    ∙ sym (ap without_hits
    (call_with_frame c.args.program.now c.requires.program c.args.self.now c.args.thread c.requires.thread c.requires.fits
    (callee_in c.args.callee) c.requires.turn deeper full)))
    (turn_kept program c.requires.program m t c.requires.thread c.requires.fits (calls_locked method) c.requires.turn (calls_moves method))

pub returns-then-frame_count-deeper-clause-memory : goal.returns-then-frame_count-deeper-clause-memory
returns-then-frame_count-deeper-clause-memory g c =
    next_memory c.self.inside c.self.invariant c.args.self.now c.self.view_is c.call_locked.new.self
    (memory_of c.take.new.self.memory (allocation_of c.self.inside.frames)
    (memories_of (slice_set c.self.inside.frames.items c.args.thread c.enter.new.self)))
    c.call_locked.ensures.memory
    (framed_memory c.self.inside c.self.invariant c.args.self.now c.self.view_is c.args.program.now c.args.thread c.call_locked.new.self
    c.call_locked.ensures.threads c.call_locked.ensures.world c.take.new.self.memory
    c.index_mut.result.now c.enter.new.self c.index_mut.ensures.value c.take.ensures.memory (ap (λ (f : FramesSeen). f.memory) c.enter.ensures))

pub returns-else-frame_count-deeper-clause-world : goal.returns-else-frame_count-deeper-clause-world
returns-else-frame_count-deeper-clause-world g c =
    let program = c.args.program.now in
    let m = c.args.self.now in
    let t = c.args.thread in
    let method = callee_in c.args.callee in
    let then : c.depth-deeper.result ≡ depth program (turn_by program (calling program) (world_of m.machine) t) t =
    c.depth-deeper.ensures program c.requires.program c.call_locked.ensures.fits
    ∙ ap (λ w. depth program w t)
    (called_seen c.self.inside c.self.invariant c.args.self.now c.self.view_is program t c.call_locked.new.self c.call_locked.ensures.threads
    c.call_locked.ensures.world) in
    let shallow : depth program (turn_by program (calling program) (world_of m.machine) t) t ≤ depth program (world_of m.machine) t =
    let same = c.requires.frame_count in let more = c.if-frame_count-deeper.false in omega (arith, same, then, more) in
    called_alone c.self.inside c.self.invariant c.args.self.now c.self.view_is program t c.call_locked.new.self c.call_locked.ensures.threads
    c.call_locked.ensures.world
    ∙ sym (ap without_hits (call_without_frame c.args.program.now c.requires.program c.args.self.now c.args.thread c.requires.thread c.requires.fits
    (callee_in c.args.callee) c.requires.turn shallow))

pub returns-else-frame_count-deeper-clause-hits : goal.returns-else-frame_count-deeper-clause-hits
returns-else-frame_count-deeper-clause-hits g c =
    let program = c.args.program.now in
    let m = c.args.self.now in
    let t = c.args.thread in
    let method = callee_in c.args.callee in
    let then : c.depth-deeper.result ≡ depth program (turn_by program (calling program) (world_of m.machine) t) t =
    c.depth-deeper.ensures program c.requires.program c.call_locked.ensures.fits
    ∙ ap (λ w. depth program w t)
    (called_seen c.self.inside c.self.invariant c.args.self.now c.self.view_is program t c.call_locked.new.self c.call_locked.ensures.threads
    c.call_locked.ensures.world) in
    let shallow : depth program (turn_by program (calling program) (world_of m.machine) t) t ≤ depth program (world_of m.machine) t =
    let same = c.requires.frame_count in let more = c.if-frame_count-deeper.false in omega (arith, same, then, more) in
    let hits = g.S.ProbeSink.hits c.args.sink.now in
    subst (λ (hs : List Hit). Gained hits hs hits)
    (no_hits c.call_locked.new.self (turn_by program (calling program) (world_of m.machine) t)
    (called_seen c.self.inside c.self.invariant c.args.self.now c.self.view_is program t c.call_locked.new.self c.call_locked.ensures.threads
    c.call_locked.ensures.world)
    ∙ sym (ap (λ (n : MonitorWorld). n.world.hits)
    (call_without_frame c.args.program.now c.requires.program c.args.self.now c.args.thread c.requires.thread c.requires.fits
    (callee_in c.args.callee) c.requires.turn shallow))) (nothing_gained hits)

pub returns-else-frame_count-deeper-clause-fits : goal.returns-else-frame_count-deeper-clause-fits
returns-else-frame_count-deeper-clause-fits g c =
    let program = c.args.program.now in
    let m = c.args.self.now in
    let t = c.args.thread in
    let method = callee_in c.args.callee in
    let then : c.depth-deeper.result ≡ depth program (turn_by program (calling program) (world_of m.machine) t) t =
    c.depth-deeper.ensures program c.requires.program c.call_locked.ensures.fits
    ∙ ap (λ w. depth program w t)
    (called_seen c.self.inside c.self.invariant c.args.self.now c.self.view_is program t c.call_locked.new.self c.call_locked.ensures.threads
    c.call_locked.ensures.world) in
    let shallow : depth program (turn_by program (calling program) (world_of m.machine) t) t ≤ depth program (world_of m.machine) t =
    let same = c.requires.frame_count in let more = c.if-frame_count-deeper.false in omega (arith, same, then, more) in
    after_turn program t (turned program t (monitor_world_of m) (calls_locked method)) _ c.call_locked.ensures.fits
    (called_alone c.self.inside c.self.invariant c.args.self.now c.self.view_is program t c.call_locked.new.self c.call_locked.ensures.threads
    c.call_locked.ensures.world
    ∙ sym (ap without_hits (call_without_frame c.args.program.now c.requires.program c.args.self.now c.args.thread c.requires.thread c.requires.fits
    (callee_in c.args.callee) c.requires.turn shallow)))
    (turn_kept program c.requires.program m t c.requires.thread c.requires.fits (calls_locked method) c.requires.turn (calls_moves method))

pub returns-else-frame_count-deeper-clause-memory : goal.returns-else-frame_count-deeper-clause-memory
returns-else-frame_count-deeper-clause-memory g c =
    next_memory c.self.inside c.self.invariant c.args.self.now c.self.view_is c.call_locked.new.self
    (monitored_of c.self.inside).memory c.call_locked.ensures.memory refl
