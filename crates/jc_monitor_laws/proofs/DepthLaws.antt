-- A thread of the original and that of its twin are as deep, and stuck both or neither.
use Rattle.std.proofs.Common.{◌≡◌, inl, inr, ℕ, suc, true, false, not, List, ◌∷◌, length, filter, Option, Some, None, refl, sym, ap, ◌∙◌, if◌then◌else◌}
use Rattle.std.specs.Prelude.{slice_get, option_and_then}
use Rattle.std.proofs.lemmas.Bool.{true≢false}
use Rattle.jc_programs.specs.declared.program.Program.{Program}
use Rattle.jc_programs.specs.declared.run_end.Entry.{Entry}
use Rattle.jc_emit.specs.Marks.{Marks}
use Rattle.jc_machine_model.specs.World.{Frame, Thread, running, returned, threw, stuck, Shared, World}
use Rattle.jc_machine_model.specs.Step.{is_init_method, counted_frames}
use Rattle.jc_machine_model.specs.Standings.{standing_of}
use Rattle.jc_monitor_model.specs.MonitorStep.{depth_in, depth, is_stuck_thread, is_stuck}
use Rattle.jc_twin_simulation.specs.Kept.{runs_at}
use Rattle.jc_twin_simulation.specs.Sides.{Side, AreSides, AreMarksOf}
use Rattle.jc_twin_simulation.specs.Beside.{SameFrame, SameWaits, SameShared, SameThread, Beside}
use Rattle.jc_twin_simulation.proofs.OwnTurnLaws.{old_no_init, new_no_init, counted_more, waits_counted}
use Rattle.jc_twin_simulation.proofs.TurnLaws.{inside_named}
use Rattle.jc_twin_simulation.proofs.WorldLaws.{SameOption, same_get}

-- a frame of `$jacocoInit` isn't counted
not_counted : (program : Program) (f : Frame) (fs : List Frame) → is_init_method program f.method ≡ true
    → counted_frames program (f ∷ fs) ≡ counted_frames program fs
not_counted program f fs e =
    ap (λ b. length (if not b then f
    ∷ filter (λ (g : Frame). not (is_init_method program g.method)) fs else filter (λ (g : Frame). not (is_init_method program g.method)) fs)) e

-- a thread that is stuck doesn't run
pub running_free : (o : Option Thread) → runs_at o ≡ true → is_stuck_thread o ≡ false
running_free None e = refl
running_free (Some (running f fs)) e = refl
running_free (Some (returned v)) e = refl
running_free (Some (threw c)) e = refl
running_free (Some (stuck m q)) e = absurd (true≢false (sym e))

-- how deep a thread is, if it is there
abbrev pub depth_at : Program → Option Thread → ℕ
depth_at program o = depth_in (option_and_then (standing_of program) o)

module _ (p p' : Program) (sides : Entry → Side) (marks : Entry → Marks) (are : AreSides p p' sides) (told : AreMarksOf p p' marks sides) where
  frames_counted : (f f' : Frame) (fs fs' : List Frame) → SameFrame p p' sides f f' → SameWaits p p' sides fs fs'
      → counted_frames p' (f' ∷ fs') ≡ counted_frames p (f ∷ fs)
  frames_counted f f' fs fs' h w =
      counted_more p p' sides p' f' fs' (new_no_init p p' sides f f' h.one) ∙ ap suc (waits_counted p p' sides fs fs' w)
      ∙ sym (counted_more p p' sides p f fs (old_no_init p p' sides f f' h.one))

  thread_depth : (s s' : Shared) → SameShared p p' sides s s' → (x x' : Thread) → SameThread p p' sides x x'
      → depth_at p' (Some x') ≡ depth_at p (Some x)
  thread_depth s s' ss (running f fs) (running f' fs') (inl h) = frames_counted f f' fs fs' h.0 h.1
  thread_depth s s' ss (running f fs) (running f' fs') (inr i) =
      not_counted p' f' fs' (inside_named p p' sides are s s' ss f f' fs fs' i) ∙ ap (counted_frames p') i.waiting
      ∙ frames_counted f i.below fs i.rest i.base i.waits
  thread_depth s s' ss (returned v) (returned v') h = refl
  thread_depth s s' ss (threw c) (threw c') h = refl
  thread_depth s s' ss (stuck m q) (stuck m' q') h = refl
  thread_depth s s' ss x x' h = absurd h

  thread_stuck : (x x' : Thread) → SameThread p p' sides x x' → is_stuck_thread (Some x') ≡ is_stuck_thread (Some x)
  thread_stuck (running f fs) (running f' fs') h = refl
  thread_stuck (returned v) (returned v') h = refl
  thread_stuck (threw c) (threw c') h = refl
  thread_stuck (stuck m q) (stuck m' q') h = refl
  thread_stuck x x' h = absurd h

  module _ (w w' : World) (h : Beside p p' sides w w') (t : ℕ) where
    pub depth_same : depth p' w' t ≡ depth p w t
    depth_same = by (slice_get w.threads t) (slice_get w'.threads t) (same_get p p' sides marks are told w.threads w'.threads h.threads t)
      where
        by : (o o' : Option Thread) → SameOption p p' sides marks are told o o' → depth_at p' o' ≡ depth_at p o
        by None None same = refl
        by (Some x) (Some x') same = thread_depth w.shared w'.shared h.shared x x' same
        by None (Some x') same = absurd same
        by (Some x) None same = absurd same

    pub stuck_same : is_stuck w' t ≡ is_stuck w t
    stuck_same = by (slice_get w.threads t) (slice_get w'.threads t) (same_get p p' sides marks are told w.threads w'.threads h.threads t)
      where
        by : (o o' : Option Thread) → SameOption p p' sides marks are told o o' → is_stuck_thread o' ≡ is_stuck_thread o
        by None None same = refl
        by (Some x) (Some x') same = thread_stuck x x' same
        by None (Some x') same = absurd same
        by (Some x) None same = absurd same
