-- One turn of a thread of a world with locks (JVM Specification 2.11.10; 6.5, monitorenter, monitorexit, invokestatic).
use Rattle.std.specs.Prelude.{ℕ, Bool, true, false, List, ◌∷◌, Option, Some, None, nat_lt, slice_get, slice_set}
use Rattle.jc_programs.specs.declared.program.Program.{Program}
use Rattle.jc_programs.specs.declared.run_end.Entry.{Entry}
use Rattle.jc_programs.specs.declared.run_end.Thrown.TheVariants as thrown
use Rattle.jc_machine_model.specs.World.{Thread, stuck, World}
use Rattle.jc_machine_model.specs.Step.{step}
use Rattle.jc_machine_model.specs.Standings.{Standing, stands}
use Rattle.jc_machine_model.specs.Locked.{turn_by, dropping, raising, calling}
use Rattle.jc_monitor_model.specs.Locks.{of_class, Held, Access, free, access, is_full, taken_by, given_by}
use Rattle.jc_monitor_model.specs.SynchronizedFrames.{frames_left, held_left}
use Rattle.jc_monitor_model.specs.MonitorWorld.{MonitorWorld, frames_of, in_world}
use Rattle.jc_monitor_model.specs.MonitorTurns.{MonitorTurn, idle, plain, raises_null, takes, gives, calls_locked, turn_of}

-- ---- how a thread stands

abbrev pub depth_in : Option Standing → ℕ
depth_in None = 0
depth_in (Some standing) = standing.depth

-- how many frames a thread has, those of `$jacocoInit` not counted; one that doesn't run has none
abbrev pub depth : Program → World → ℕ → ℕ
depth program w t = depth_in (stands program w t)

abbrev pub is_stuck_thread : Option Thread → Bool
is_stuck_thread (Some (stuck method place)) = true
is_stuck_thread thread = false

abbrev pub is_stuck : World → ℕ → Bool
is_stuck w t = is_stuck_thread (slice_get w.threads t)

-- ---- a call of a synchronized method

-- The lock of the method's class is taken for the frame that was made.
abbrev pub with_frame : Program → ℕ → Entry → MonitorWorld → World → MonitorWorld
with_frame program t callee m called = record {
  world = called;
  held = taken_by t (of_class callee.class) m.held;
  frames = slice_set m.frames t (record { depth = depth program called t; class = callee.class } ∷ frames_of m t);
}

-- it would be one lock too many
abbrev pub is_one_too_many : List Held → Access → Bool
is_one_too_many held free = is_full held
is_one_too_many held access = false

-- Where no frame was made, as too many are there, no lock is taken. Where one was, and no lock more can be held, the thread is stuck
-- in its place.
abbrev pub called_as : Program → ℕ → Entry → MonitorWorld → World → (deeper too_many : Bool) → MonitorWorld
called_as program t callee m called false too_many = in_world m called
called_as program t callee m called true true = in_world m (step program m.world t)
called_as program t callee m called true false = with_frame program t callee m called

abbrev pub called_to : Program → ℕ → Entry → MonitorWorld → World → MonitorWorld
called_to program t callee m called =
    called_as program t callee m called (nat_lt (depth program m.world t) (depth program called t))
    (is_one_too_many m.held (access t (of_class callee.class) m.held))

-- ---- the turn

abbrev pub turned : Program → ℕ → MonitorWorld → MonitorTurn → MonitorWorld
turned program t m idle = m
turned program t m plain = in_world m (step program m.world t)
turned program t m raises_null = in_world m (turn_by program (raising thrown.NullPointerException) m.world t)
turned program t m (takes lock) = record m { world = turn_by program dropping m.world t; held = taken_by t lock m.held }
turned program t m (gives lock) = record m { world = turn_by program dropping m.world t; held = given_by t lock m.held }
turned program t m (calls_locked callee) = called_to program t callee m (turn_by program (calling program) m.world t)

-- Frames that are there no longer give their locks back. A stuck thread keeps its frames.
abbrev pub released : Program → ℕ → MonitorWorld → (stuck : Bool) → MonitorWorld
released program t m true = m
released program t m false =
    record m {
      held = held_left t (depth program m.world t) (frames_of m t) m.held;
      frames = slice_set m.frames t (frames_left (depth program m.world t) (frames_of m t));
    }

abbrev pub after_release : Program → ℕ → MonitorWorld → MonitorWorld
after_release program t m = released program t m (is_stuck m.world t)

-- an idle turn leaves all as it is
abbrev pub step_as : Program → ℕ → MonitorWorld → MonitorTurn → MonitorWorld
step_as program t m idle = m
step_as program t m turn = after_release program t (turned program t m turn)

-- the world after one turn of the thread
unfoldable pub monitor_step : Program → MonitorWorld → ℕ → MonitorWorld
monitor_step program m t = step_as program t m (turn_of program m t)
