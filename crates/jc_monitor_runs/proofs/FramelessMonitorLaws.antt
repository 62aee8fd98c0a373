-- A turn with locks in a program without frames.
use Rattle.std.proofs.Common.{◌≡◌, ℕ, Bool, true, false, ◌∷◌, Option, None, Some, option_and_then, nat_lt, refl, ap, ap₂, ◌∙◌}
use Rattle.std.specs.List.{slice_get, slice_set}
use Rattle.jc_programs.specs.declared.program.Program.{Program}
use Rattle.jc_programs.specs.declared.run_end.Entry.{Entry}
use Rattle.jc_programs.specs.declared.run_end.Thrown.TheVariants as thrown
use Rattle.jc_machine_model.specs.Results.{Result}
use Rattle.jc_machine_model.specs.World.{Frame, Thread, running, returned, threw, stuck, Shared, World}
use Rattle.jc_machine_model.specs.Step.{after_result, with_after}
use Rattle.jc_machine_model.specs.Standings.{Standing, standing_of, stands, top_in}
use Rattle.jc_machine_model.specs.Locked.{turn_to, turn_by_of, turn_by, MonitorInsn, monitor_of_thread, monitor_at, dropping, raising}
use Rattle.jc_machine_model.specs.Locked.{callee_of_thread, callee, calling}
use Rattle.jc_machine_laws.specs.Frameless.{frameless}
use Rattle.jc_machine_laws.proofs.FramelessStepLaws.{same_counted, same_after, same_step}
use Rattle.jc_monitor_model.specs.Locks.{of_class, access, taken_by, given_by}
use Rattle.jc_monitor_model.specs.SynchronizedFrames.{frames_left, held_left}
use Rattle.jc_monitor_model.specs.MonitorWorld.{MonitorWorld, frames_of, in_world}
use Rattle.jc_monitor_model.specs.MonitorTurns.{MonitorTurn, idle, plain, raises_null, takes, gives, calls_locked, turn_on, turn_if, turn_of}
use Rattle.jc_monitor_model.specs.MonitorStep.{depth_in, depth, is_stuck, is_one_too_many, called_as, called_to, turned, released, after_release, step_as, monitor_step}
use Rattle.jc_monitor_runs.proofs.FramelessMethodLaws.{same_monitor, same_callee_of, same_calling}

module _ (p : Program) where
  -- ---- a turn by what comes of it

  same_turn_by : (act other : Shared → Frame → Result) → ((s : Shared) (f : Frame) → act s f ≡ other s f) → (w : World) (t : ℕ)
      → turn_by (frameless p) act w t ≡ turn_by p other w t
  same_turn_by act other same w t = by (slice_get w.threads t)
    where
      in_thread : (thread : Thread) → turn_to (frameless p) act w.shared thread ≡ turn_to p other w.shared thread
      in_thread (running f waiting) =
          ap (λ (r : Result). after_result (frameless p) r w.shared f waiting) (same w.shared f) ∙ same_after p (other w.shared f) w.shared f waiting
      in_thread (returned v) = refl
      in_thread (threw c) = refl
      in_thread (stuck method place) = refl

      by : (o : Option Thread) → turn_by_of (frameless p) act w t o ≡ turn_by_of p other w t o
      by None = refl
      by (Some thread) = ap (with_after t w) (in_thread thread)

  -- ---- where a thread stands

  same_stands : (w : World) (t : ℕ) → stands (frameless p) w t ≡ stands p w t
  same_stands w t = ap (λ (of : Thread → Option Standing). option_and_then of (slice_get w.threads t)) (λ i thread. in_thread thread i)
    where
      in_thread : (thread : Thread) → standing_of (frameless p) thread ≡ standing_of p thread
      in_thread (running f waiting) =
          ap (λ (n : ℕ). let s : Standing = record { method = f.method; place = f.place; depth = n } in Some s) (same_counted p (f ∷ waiting))
      in_thread (returned v) = refl
      in_thread (threw c) = refl
      in_thread (stuck method place) = refl

  same_depth : (w : World) (t : ℕ) → depth (frameless p) w t ≡ depth p w t
  same_depth w t = ap depth_in (same_stands w t)

  same_monitor_at : (w : World) (t : ℕ) → monitor_at (frameless p) w t ≡ monitor_at p w t
  same_monitor_at w t = ap (λ (of : Thread → Option MonitorInsn). option_and_then of (slice_get w.threads t)) (λ i thread. in_thread thread i)
    where
      in_thread : (thread : Thread) → monitor_of_thread (frameless p) thread ≡ monitor_of_thread p thread
      in_thread (running f waiting) = same_monitor p f
      in_thread (returned v) = refl
      in_thread (threw c) = refl
      in_thread (stuck method place) = refl

  same_callee_at : (w : World) (t : ℕ) → callee (frameless p) w t ≡ callee p w t
  same_callee_at w t = ap (λ (of : Thread → Option Entry). option_and_then of (slice_get w.threads t)) (λ i thread. in_thread thread i)
    where
      in_thread : (thread : Thread) → callee_of_thread (frameless p) thread ≡ callee_of_thread p thread
      in_thread (running f waiting) = same_callee_of p f
      in_thread (returned v) = refl
      in_thread (threw c) = refl
      in_thread (stuck method place) = refl

  -- ---- a turn

  same_turn_of : (m : MonitorWorld) (t : ℕ) → turn_of (frameless p) m t ≡ turn_of p m t
  same_turn_of m t =
      ap₂ (λ (s : Option Standing) (turn : MonitorTurn). turn_if s turn) (same_stands m.world t)
      (ap₂ (λ (insn : Option MonitorInsn) (o : Option Entry). turn_on t insn (top_in m.world t) o m.held) (same_monitor_at m.world t)
      (same_callee_at m.world t))

  same_called_as : (t : ℕ) (method : Entry) (m : MonitorWorld) (called : World) (deeper too_many : Bool)
      → called_as (frameless p) t method m called deeper too_many ≡ called_as p t method m called deeper too_many
  same_called_as t method m called false too_many = refl
  same_called_as t method m called true true = ap (in_world m) (same_step p m.world t)
  same_called_as t method m called true false =
      ap (λ (n : ℕ). let r : MonitorWorld = record {
        world = called;
        held = taken_by t (of_class method.class) m.held;
        frames = slice_set m.frames t (record { depth = n; class = method.class } ∷ frames_of m t);
      } in r)
      (same_depth called t)

  same_called_to : (t : ℕ) (method : Entry) (m : MonitorWorld) (called : World) → called_to (frameless p) t method m called ≡ called_to p t method m called
  same_called_to t method m called =
      let too_many = is_one_too_many m.held (access t (of_class method.class) m.held) in
      ap₂ (λ (n k : ℕ). called_as (frameless p) t method m called (nat_lt n k) too_many) (same_depth m.world t) (same_depth called t)
      ∙ same_called_as t method m called (nat_lt (depth p m.world t) (depth p called t)) too_many

  same_turned : (t : ℕ) (m : MonitorWorld) (turn : MonitorTurn) → turned (frameless p) t m turn ≡ turned p t m turn
  same_turned t m idle = refl
  same_turned t m plain = ap (in_world m) (same_step p m.world t)
  same_turned t m raises_null =
      ap (in_world m) (same_turn_by (raising thrown.NullPointerException) (raising thrown.NullPointerException) (λ s f. refl) m.world t)
  same_turned t m (takes lock) =
      ap (λ (w : World). let r : MonitorWorld = record m { world = w; held = taken_by t lock m.held } in r)
      (same_turn_by dropping dropping (λ s f. refl) m.world t)
  same_turned t m (gives lock) =
      ap (λ (w : World). let r : MonitorWorld = record m { world = w; held = given_by t lock m.held } in r)
      (same_turn_by dropping dropping (λ s f. refl) m.world t)
  same_turned t m (calls_locked method) =
      ap (called_to (frameless p) t method m) (same_turn_by (calling (frameless p)) (calling p) (same_calling p) m.world t)
      ∙ same_called_to t method m (turn_by p (calling p) m.world t)

  same_released : (t : ℕ) (m : MonitorWorld) (stuck : Bool) → released (frameless p) t m stuck ≡ released p t m stuck
  same_released t m true = refl
  same_released t m false =
      ap (λ (n : ℕ). let r : MonitorWorld = record m {
        held = held_left t n (frames_of m t) m.held;
        frames = slice_set m.frames t (frames_left n (frames_of m t));
      } in r)
      (same_depth m.world t)

  same_step_as : (t : ℕ) (m : MonitorWorld) (turn : MonitorTurn) → step_as (frameless p) t m turn ≡ step_as p t m turn
  same_step_as t m idle = refl
  same_step_as t m turn =
      ap (after_release (frameless p) t) (same_turned t m turn)
      ∙ same_released t (turned p t m turn) (is_stuck (turned p t m turn).world t)

  pub same_monitor_step : (m : MonitorWorld) (t : ℕ) → monitor_step (frameless p) m t ≡ monitor_step p m t
  unfolding monitor_step
  same_monitor_step m t = ap (step_as (frameless p) t m) (same_turn_of m t) ∙ same_step_as t m (turn_of p m t)
