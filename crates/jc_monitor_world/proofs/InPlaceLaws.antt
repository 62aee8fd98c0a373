-- The world in memory behind a turn is the one that the turn leaves.
use Rattle.std.proofs.Common.{◌≡◌, ℕ, ◌<◌, List, ◌∷◌, length, take, sym, ap, ap₂, ◌∙◌}
use Rattle.std.specs.Prelude.{slice_set, slice_index_or}
use Rattle.jc_region.specs.Memory.{Allocation, allocation_of}
use Rattle.jc_programs.specs.declared.program.Program.{Program}
use Rattle.jc_programs.specs.declared.run_end.Entry.{Entry}
use Rattle.jc_programs.specs.declared.run_end.Thrown.TheVariants as thrown
use Rattle.jc_machine_model.specs.World.{World}
use Rattle.jc_machine_model.specs.Step.{step}
use Rattle.jc_machine_model.specs.Locked.{turn_by, dropping, raising, calling}
use Rattle.jc_machine.specs.Machines.{Machine, world_of}
use Rattle.jc_machine.specs.Turned.{without_hits as machine_without_hits}
use Rattle.jc_monitor_model.specs.Locks.{Lock, of_class, Held, taken_by, given_by}
use Rattle.jc_monitor_model.specs.SynchronizedFrames.{SynchronizedFrame}
use Rattle.jc_monitor_model.specs.MonitorWorld.{MonitorWorld, in_world}
use Rattle.jc_monitor_model.specs.MonitorTurns.{raises_null, takes, gives}
use Rattle.jc_monitor_model.specs.MonitorStep.{depth, with_frame, turned}
use Rattle.jc_monitor_world.specs.declared.monitor_world.MonitorWorld.TheInside.{Inside}
use Rattle.jc_monitor_world.specs.Kept.{FramesSeen}
use Rattle.jc_monitor_world.specs.Monitored.{MonitorMemory, Monitored, monitor_world_of, without_hits, monitored_of, IsMonitored}
use Rattle.jc_monitor_world.proofs.MonitoredLaws.{same_in, lists_of, memories_of, made_of, frames_here, framed_world, in_view, locks_world, world_alone, unhit}

-- memory of these parts
abbrev pub memory_of : (held threads : Allocation) → List Allocation → MonitorMemory
memory_of held threads frames = record { held = held; threads = threads; frames = frames }

module _ (w : Inside) (is : IsMonitored w) (m : Monitored) (view : monitored_of w ≡ m) (program : Program) (t : ℕ) where
  held_is : w.locks.held ≡ m.held
  held_is = ap (λ (x : Monitored). x.held) view

  -- ---- the world behind a turn of the machine, beside these locks

  abbrev pub beside : Machine → List Held → MonitorWorld
  beside next held = made_of (world_of next) held (take (length next.threads) (lists_of w.frames.items))

  pub plain_world : (next : Machine) → length next.threads ≡ length w.world.threads
      → world_of next ≡ machine_without_hits (step program (world_of w.world) t)
      → beside next w.locks.held ≡ without_hits (in_world (monitor_world_of m) (step program (world_of m.machine) t))
  plain_world next same e =
      world_alone w is m view next (step program (world_of m.machine) t) same
      (in_view w is m view (world_of next) (λ x. machine_without_hits (step program x t)) e)

  pub null_seen : (next : Machine) → world_of next ≡ turn_by program (raising thrown.NullPointerException) (world_of w.world) t
      → world_of next ≡ turn_by program (raising thrown.NullPointerException) (world_of m.machine) t
  null_seen next e = in_view w is m view (world_of next) (λ x. turn_by program (raising thrown.NullPointerException) x t) e

  pub null_world : (next : Machine) → length next.threads ≡ length w.world.threads
      → world_of next ≡ turn_by program (raising thrown.NullPointerException) (world_of w.world) t
      → beside next w.locks.held ≡ without_hits (turned program t (monitor_world_of m) raises_null)
  null_world next same e =
      let behind = turn_by program (raising thrown.NullPointerException) (world_of m.machine) t in
      world_alone w is m view next behind same
      (unhit next behind (null_seen next e))

  module _ (next : Machine) (same : length next.threads ≡ length w.world.threads)
      (e : world_of next ≡ turn_by program dropping (world_of w.world) t) where
    pub dropped_seen : world_of next ≡ turn_by program dropping (world_of m.machine) t
    dropped_seen = in_view w is m view (world_of next) (λ x. turn_by program dropping x t) e

    pub takes_world : (lock : Lock) (held : List Held) → held ≡ taken_by t lock w.locks.held
        → beside next held ≡ without_hits (turned program t (monitor_world_of m) (takes lock))
    takes_world lock held taken =
        locks_world w is m view next held (taken_by t lock m.held) (turn_by program dropping (world_of m.machine) t) same
        (unhit next (turn_by program dropping (world_of m.machine) t) dropped_seen) (taken ∙ ap (taken_by t lock) held_is)

    pub gives_world : (lock : Lock) (held : List Held) → held ≡ given_by t lock w.locks.held
        → beside next held ≡ without_hits (turned program t (monitor_world_of m) (gives lock))
    gives_world lock held given =
        locks_world w is m view next held (given_by t lock m.held) (turn_by program dropping (world_of m.machine) t) same
        (unhit next (turn_by program dropping (world_of m.machine) t) dropped_seen) (given ∙ ap (given_by t lock) held_is)

  -- ---- a synchronized method is called

  -- the frame that was made
  abbrev pub new_frame : World → Entry → SynchronizedFrame
  new_frame behind method = record { depth = depth program behind t; class = method.class }

  module _ (next : Machine) (same : length next.threads ≡ length w.world.threads)
      (e : world_of next ≡ turn_by program (calling program) (world_of w.world) t) where
    abbrev called : World
    called = turn_by program (calling program) (world_of m.machine) t

    pub called_seen : world_of next ≡ called
    called_seen = in_view w is m view (world_of next) (λ x. turn_by program (calling program) x t) e

    pub called_alone : beside next w.locks.held ≡ without_hits (in_world (monitor_world_of m) called)
    called_alone = world_alone w is m view next called same (unhit next called called_seen)

    pub framed : (less : t < length m.machine.threads) (method : Entry) (held : List Held) (before after : FramesSeen)
        → before ≡ slice_index_or w.frames.items t before → held ≡ taken_by t (of_class method.class) w.locks.held
        → after.frames ≡ new_frame (world_of next) method ∷ before.frames
        → made_of (world_of next) held (take (length next.threads) (lists_of (slice_set w.frames.items t after)))
        ≡ without_hits (with_frame program t method (monitor_world_of m) called)
    framed less method held before after at taken new =
        let list = frames_here w is m view t less before at in
        framed_world w is m view t less next held after same
        ∙ (ap₂ (λ (h : List Held) (fs : List SynchronizedFrame). made_of (world_of next) h (slice_set m.frames t fs)) (taken
        ∙ ap (taken_by t (of_class method.class)) held_is)
        (new ∙ ap (λ fs. new_frame (world_of next) method ∷ fs) (sym list))
        ∙ ap (λ (x : World). without_hits (with_frame program t method (monitor_world_of m) x)) called_seen)

    -- where the frame lies
    pub framed_memory : (locks : Allocation) (before after : FramesSeen) → before ≡ slice_index_or w.frames.items t before → locks ≡ w.locks.memory
        → after.memory ≡ before.memory
        → memory_of locks (allocation_of w.frames) (memories_of (slice_set w.frames.items t after)) ≡ (monitored_of w).memory
    framed_memory locks before after at same lies =
        ap₂ (λ (l : Allocation) (fs : List Allocation). memory_of l (allocation_of w.frames) fs) same
        (same_in (λ (x : FramesSeen). x.memory) w.frames.items t before after at lies)
