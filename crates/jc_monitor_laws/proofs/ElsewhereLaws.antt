-- A turn of a thread leaves other threads and their frames of synchronized methods, and one of a thread that doesn't run leaves all.
use Rattle.std.proofs.Common.{◌≡◌, ℕ, Bool, true, false, List, [], ◌∷◌, Option, Some, None, nat_lt, refl, sym, ap, ◌∙◌}
use Rattle.std.specs.Prelude.{slice_get, slice_set, slice_index_or, option_and_then}
use Rattle.std.proofs.lemmas.Bool.{true≢false}
use Rattle.std.proofs.lemmas.List.{get_or-set_other}
use Rattle.jc_programs.specs.declared.program.Program.{Program}
use Rattle.jc_programs.specs.declared.run_end.Entry.{Entry}
use Rattle.jc_programs.specs.declared.run_end.Thrown.TheVariants as thrown
use Rattle.jc_machine_model.specs.World.{Frame, Thread, running, returned, threw, stuck, Shared, World}
use Rattle.jc_machine_model.specs.Results.{Result}
use Rattle.jc_machine_model.specs.Standings.{standing_of, top_in}
use Rattle.jc_machine_model.specs.Locked.{turn_to, turn_by_of, turn_by, dropping, raising, monitor_at, callee, calling}
use Rattle.jc_monitor_model.specs.Locks.{of_class, access}
use Rattle.jc_monitor_model.specs.SynchronizedFrames.{SynchronizedFrame, frames_left}
use Rattle.jc_monitor_model.specs.MonitorWorld.{MonitorWorld, frames_of}
use Rattle.jc_monitor_model.specs.MonitorTurns.{MonitorTurn, idle, plain, raises_null, takes, gives, calls_locked, turn_on, turn_if, turn_of}
use Rattle.jc_monitor_model.specs.MonitorStep.{depth, is_stuck, is_one_too_many, called_as, turned, released, after_release, step_as, monitor_step}
use Rattle.jc_twin_simulation.specs.Kept.{runs_at, runs}
use Rattle.jc_twin_simulation.proofs.RunLaws.{get_other, step_other}

-- ---- another thread

pub record SameElsewhere (m n : MonitorWorld) (k : ℕ) : Type 0 where
  pub thread : slice_get n.world.threads k ≡ slice_get m.world.threads k
  pub frames : frames_of n k ≡ frames_of m k

module _ (program : Program) (t k : ℕ) (apart : t ≡ k → ⊥) where
  turn_by_other : (act : Shared → Frame → Result) (w : World) → slice_get (turn_by program act w t).threads k ≡ slice_get w.threads k
  turn_by_other act w = by (slice_get w.threads t)
    where
      by : (o : Option Thread) → slice_get (turn_by_of program act w t o).threads k ≡ slice_get w.threads k
      by None = refl
      by (Some x) = get_other w.threads t k (turn_to program act w.shared x).thread apart

  frames_other : (m : MonitorWorld) (frames : List SynchronizedFrame) → slice_index_or (slice_set m.frames t frames) k [] ≡ frames_of m k
  frames_other m frames = get_or-set_other m.frames t k frames [] (λ e. apart (sym e))

  called_other : (callee : Entry) (m : MonitorWorld) (w : World) → slice_get w.threads k ≡ slice_get m.world.threads k → (deeper too_many : Bool)
      → SameElsewhere m (called_as program t callee m w deeper too_many) k
  called_other callee m w e false too_many = record { thread = e; frames = refl }
  called_other callee m w e true true = record { thread = step_other program m.world t k apart; frames = refl }
  called_other callee m w e true false =
      record { thread = e; frames = frames_other m (record { depth = depth program w t; class = callee.class } ∷ frames_of m t) }

  turned_other : (m : MonitorWorld) (turn : MonitorTurn) → SameElsewhere m (turned program t m turn) k
  turned_other m idle = record { thread = refl; frames = refl }
  turned_other m plain = record { thread = step_other program m.world t k apart; frames = refl }
  turned_other m raises_null = record { thread = turn_by_other (raising thrown.NullPointerException) m.world; frames = refl }
  turned_other m (takes lock) = record { thread = turn_by_other dropping m.world; frames = refl }
  turned_other m (gives lock) = record { thread = turn_by_other dropping m.world; frames = refl }
  turned_other m (calls_locked callee) =
      let w = turn_by program (calling program) m.world t in
      called_other callee m w (turn_by_other (calling program) m.world) (nat_lt (depth program m.world t) (depth program w t))
      (is_one_too_many m.held (access t (of_class callee.class) m.held))

  released_other : (m n : MonitorWorld) → SameElsewhere m n k → SameElsewhere m (after_release program t n) k
  released_other m n h = by (is_stuck n.world t)
    where
      by : (b : Bool) → SameElsewhere m (released program t n b) k
      by true = h
      by false = record { thread = h.thread; frames = frames_other n (frames_left (depth program n.world t) (frames_of n t)) ∙ h.frames }

  pub others_same : (m : MonitorWorld) → SameElsewhere m (monitor_step program m t) k
  unfolding monitor_step
  others_same m = by (turn_of program m t)
    where
      by : (turn : MonitorTurn) → SameElsewhere m (step_as program t m turn) k
      by idle = record { thread = refl; frames = refl }
      by plain = released_other m (turned program t m plain) (turned_other m plain)
      by raises_null = released_other m (turned program t m raises_null) (turned_other m raises_null)
      by (takes lock) = released_other m (turned program t m (takes lock)) (turned_other m (takes lock))
      by (gives lock) = released_other m (turned program t m (gives lock)) (turned_other m (gives lock))
      by (calls_locked callee) = released_other m (turned program t m (calls_locked callee)) (turned_other m (calls_locked callee))

-- ---- a thread that doesn't run

stands_nowhere : (program : Program) (o : Option Thread) → runs_at o ≡ false → option_and_then (standing_of program) o ≡ None
stands_nowhere program None e = refl
stands_nowhere program (Some (running f fs)) e = absurd (true≢false e)
stands_nowhere program (Some (returned v)) e = refl
stands_nowhere program (Some (threw c)) e = refl
stands_nowhere program (Some (stuck m q)) e = refl

pub nothing_changes : (program : Program) (m : MonitorWorld) (t : ℕ) → runs m.world t ≡ false → monitor_step program m t ≡ m
unfolding monitor_step
nothing_changes program m t e =
    ap (λ s. step_as program t m (turn_if s (turn_on t (monitor_at program m.world t) (top_in m.world t) (callee program m.world t) m.held)))
    (stands_nowhere program (slice_get m.world.threads t) e)
