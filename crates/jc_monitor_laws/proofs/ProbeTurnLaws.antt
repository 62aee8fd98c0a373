-- A probe turn of the twin is the turn that its thread takes without locks.
use Rattle.std.proofs.Common.{◌≡◌, ℕ, true, false, List, Option, Some, None, refl, sym, ap, ◌∙◌, subst}
use Rattle.std.specs.Prelude.{slice_get, option_and_then}
use Rattle.std.proofs.lemmas.Bool.{true≢false}
use Rattle.jc_programs.specs.declared.program.Program.{Program}
use Rattle.jc_programs.specs.declared.run_end.Entry.{Entry}
use Rattle.jc_emit.specs.Marks.{Marks}
use Rattle.jc_machine_model.specs.World.{Frame, Thread, running, returned, threw, stuck, Shared, World}
use Rattle.jc_machine_model.specs.Results.{gets_stuck}
use Rattle.jc_machine_model.specs.Step.{result_of, after_result, step}
use Rattle.jc_machine_model.specs.Standings.{standing_of, top_of, top_of_thread}
use Rattle.jc_machine_model.specs.Locked.{MonitorInsn, monitor_of_frame, monitor_of_thread, callee_of_frame, callee_of_thread}
use Rattle.jc_monitor_model.specs.Locks.{Held}
use Rattle.jc_monitor_model.specs.MonitorWorld.{MonitorWorld, frames_of, in_world}
use Rattle.jc_monitor_model.specs.MonitorTurns.{MonitorTurn, plain, turn_on, turn_if, turn_of}
use Rattle.jc_monitor_model.specs.MonitorStep.{step_as, monitor_step}
use Rattle.jc_twin_simulation.specs.Kept.{runs_at, runs, keeps, keeps_at, is_kept, step_if}
use Rattle.jc_twin_simulation.specs.Sides.{Side, AreSides, AreMarksOf}
use Rattle.jc_twin_simulation.specs.Beside.{SameShared, SameThread, Beside}
use Rattle.jc_twin_simulation.proofs.WorldLaws.{aside_thread, SameOption, same_get, one_turn}
use Rattle.jc_monitor_laws.proofs.StuckLaws.{stuck_at_monitor, stuck_at_call}
use Rattle.jc_monitor_laws.proofs.DepthLaws.{depth_same}
use Rattle.jc_monitor_laws.proofs.ReleaseLaws.{AreWithin, HasFramesWithin, releases_none}

-- the kind of a turn, by what stands in the thread
abbrev pub turn_at : Program → (t : ℕ) → Shared → List Held → Option Thread → MonitorTurn
turn_at program t s held o =
    turn_if (option_and_then (standing_of program) o)
    (turn_on t (option_and_then (monitor_of_thread program) o) (top_of_thread s.heap o) (option_and_then (callee_of_thread program) o) held)

module _ (p p' : Program) (sides : Entry → Side) (marks : Entry → Marks) (are : AreSides p p' sides) (told : AreMarksOf p p' marks sides) where
  -- ---- one thread

  module _ (s s' : Shared) (ss : SameShared p p' sides s s') (t : ℕ) (held : List Held) where
    -- it isn't stuck behind a turn of its own
    not_stuck : (x : Thread) (f' : Frame) (fs' : List Frame) → SameThread p p' sides x (running f' fs') → keeps p' marks (running f' fs') ≡ false
        → result_of p' s' f' ≡ gets_stuck → ⊥
    not_stuck x f' fs' h k e =
        apart x h
        (subst (λ r. SameThread p p' sides x (after_result p' r s' f' fs').thread) e
        (aside_thread p p' sides marks are told s s' ss x (running f' fs') h refl k).thread)
      where
        apart : (y : Thread) → SameThread p p' sides y (running f' fs') → SameThread p p' sides y (stuck f'.method f'.place) → ⊥
        apart (running f fs) same other = other
        apart (returned v) same other = other
        apart (threw c) same other = other
        apart (stuck m q) same other = same

    frame_plain : (x : Thread) (f' : Frame) (fs' : List Frame) → SameThread p p' sides x (running f' fs') → keeps p' marks (running f' fs') ≡ false
        → turn_at p' t s' held (Some (running f' fs')) ≡ plain
    frame_plain x f' fs' h k = by (monitor_of_frame p' f') refl (callee_of_frame p' f') refl
      where
        by : (i : Option MonitorInsn) → monitor_of_frame p' f' ≡ i → (c : Option Entry) → callee_of_frame p' f' ≡ c
            → turn_on t i (top_of s'.heap f'.stack) c held ≡ plain
        by (Some i) e c d = absurd (not_stuck x f' fs' h k (stuck_at_monitor p' s' f' i e))
        by None e (Some c) d = absurd (not_stuck x f' fs' h k (stuck_at_call p' s' f' c d))
        by None e None d = refl

    option_plain : (o o' : Option Thread) → SameOption p p' sides marks are told o o' → runs_at o' ≡ true → keeps_at p' marks o' ≡ false
        → turn_at p' t s' held o' ≡ plain
    option_plain (Some x) (Some (running f' fs')) h r k = frame_plain x f' fs' h k
    option_plain (Some x) (Some (returned v)) h r k = absurd (true≢false (sym r))
    option_plain (Some x) (Some (threw c)) h r k = absurd (true≢false (sym r))
    option_plain (Some x) (Some (stuck m q)) h r k = absurd (true≢false (sym r))
    option_plain None (Some x') h r k = absurd h
    option_plain o None h r k = absurd (true≢false (sym r))

  -- ---- the world

  module _ (w : World) (m' : MonitorWorld) (h : Beside p p' sides w m'.world) (t : ℕ) (r : runs m'.world t ≡ true)
      (k : is_kept p' marks m'.world t ≡ false) where
    pub probe_plain : turn_of p' m' t ≡ plain
    probe_plain =
        option_plain w.shared m'.world.shared h.shared t m'.held (slice_get w.threads t) (slice_get m'.world.threads t)
        (same_get p p' sides marks are told w.threads m'.world.threads h.threads t) r k

    abbrev next : World
    next = step p' m'.world t

    pub beside_next : Beside p p' sides w next
    beside_next = subst (λ b. Beside p p' sides (step_if b p w t) next) k (one_turn p p' sides marks are told t w m'.world h)

    -- the thread is as deep behind the turn, so that no frame is left
    pub probe_step : runs next t ≡ true → HasFramesWithin p' m' t → monitor_step p' m' t ≡ in_world m' next
    unfolding monitor_step
    probe_step runs_on within =
        ap (step_as p' t m') probe_plain
        ∙ releases_none p' t (in_world m' next) runs_on
        (λ e. subst (λ d. AreWithin d (frames_of m' t))
        (depth_same p p' sides marks are told w m'.world h t ∙ sym (depth_same p p' sides marks are told w next beside_next t)) (within r))
