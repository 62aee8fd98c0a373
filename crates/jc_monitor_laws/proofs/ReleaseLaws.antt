-- Frames of synchronized methods that are no deeper than their thread stay, with their locks; each turn leaves no others.
use Rattle.std.proofs.Common.{◌≡◌, ℕ, zero, suc, ◌≤◌, Bool, true, false, cond, List, [], ◌∷◌, Option, nat_lt, refl, sym, ap, ap₂, ◌∙◌}
use Rattle.std.specs.Prelude.{slice_get, slice_set, slice_index_or}
use Rattle.std.specs.List.{AllByRecursion}
use Rattle.std.proofs.lemmas.Bool.{ltb-false, le-ltb, true≢false}
use Rattle.std.proofs.lemmas.List.{set-get_or}
use Rattle.jc_programs.specs.declared.program.Program.{Program}
use Rattle.jc_machine_model.specs.World.{Thread}
use Rattle.jc_monitor_model.specs.Locks.{of_class, Held, given_by}
use Rattle.jc_monitor_model.specs.SynchronizedFrames.{SynchronizedFrame, frames_left, held_left}
use Rattle.jc_monitor_model.specs.MonitorWorld.{MonitorWorld, frames_of}
use Rattle.jc_monitor_model.specs.MonitorTurns.{MonitorTurn, idle, plain, raises_null, takes, gives, calls_locked, turn_of}
use Rattle.jc_monitor_model.specs.MonitorStep.{depth, is_stuck, turned, released, after_release, step_as, monitor_step}
use Rattle.jc_twin_simulation.specs.Kept.{runs_at, runs}
use Rattle.jc_monitor_laws.proofs.DepthLaws.{running_free, depth_at}

-- ---- frames

-- none is deeper
abbrev pub AreWithin : (depth : ℕ) → List SynchronizedFrame → Type 0
AreWithin depth frames = AllByRecursion (λ (f : SynchronizedFrame). f.depth ≤ depth) frames

-- those that stay are within
left_within : (depth : ℕ) (frames : List SynchronizedFrame) → AreWithin depth (frames_left depth frames)
left_within depth [] = tt
left_within depth (f ∷ frames) = by (nat_lt depth f.depth) refl (left_within depth frames)
  where
    by : (z : Bool) → nat_lt depth f.depth ≡ z → AreWithin depth (frames_left depth frames)
        → AreWithin depth (cond z (frames_left depth frames) (f ∷ frames_left depth frames))
    by true q rest = rest
    by false q rest = (ltb-false depth f.depth q, rest)

-- where all are within, all stay, and no lock is given back
all_stay : (t depth : ℕ) (frames : List SynchronizedFrame) (held : List Held) → AreWithin depth frames
    → (frames_left depth frames ≡ frames) × (held_left t depth frames held ≡ held)
all_stay t depth [] held w = (refl, refl)
all_stay t depth (f ∷ frames) held w =
    let stays : nat_lt depth f.depth ≡ false = le-ltb depth f.depth w.0 in
    let rest = all_stay t depth frames held w.1 in (
      ap (λ z. cond z (frames_left depth frames) (f ∷ frames_left depth frames)) stays ∙ ap (λ l. f ∷ l) rest.0,
      ap (λ z. cond z (held_left t depth frames (given_by t (of_class f.class) held)) (held_left t depth frames held)) stays ∙ rest.1,
    )

-- ---- the frames of a thread

-- while the thread runs, none is deeper than it is
abbrev pub IsWithin : Program → Option Thread → List SynchronizedFrame → Type 0
IsWithin program thread frames = runs_at thread ≡ true → AreWithin (depth_at program thread) frames

abbrev pub HasFramesWithin : Program → MonitorWorld → ℕ → Type 0
HasFramesWithin program m t = IsWithin program (slice_get m.world.threads t) (frames_of m t)

-- a release leaves such a thread as it is
pub releases_none : (program : Program) (t : ℕ) (m : MonitorWorld) → runs m.world t ≡ true → HasFramesWithin program m t → after_release program t m ≡ m
releases_none program t m r w =
    let all = all_stay t (depth program m.world t) (frames_of m t) m.held (w r) in
    ap (released program t m) (running_free (slice_get m.world.threads t) r)
    ∙ ap₂ (λ held frames. record { world = m.world; held = held; frames = frames }) all.1
    (ap (slice_set m.frames t) all.0 ∙ set-get_or m.frames t [])

-- behind a release each thread has such frames
set_within : (depth : ℕ) (all : List (List SynchronizedFrame)) (t : ℕ) (frames : List SynchronizedFrame) → AreWithin depth frames
    → AreWithin depth (slice_index_or (slice_set all t frames) t [])
set_within depth [] t frames w = tt
set_within depth (x ∷ all) zero frames w = w
set_within depth (x ∷ all) (suc t) frames w = set_within depth all t frames w

released_within : (program : Program) (t : ℕ) (m : MonitorWorld) → HasFramesWithin program (after_release program t m) t
released_within program t m = by (is_stuck m.world t) refl
  where
    by : (b : Bool) → is_stuck m.world t ≡ b → HasFramesWithin program (released program t m b) t
    by true e r = absurd (true≢false (sym e ∙ running_free (slice_get m.world.threads t) r))
    by false e r =
        set_within (depth program m.world t) m.frames t (frames_left (depth program m.world t) (frames_of m t))
        (left_within (depth program m.world t) (frames_of m t))

-- a turn of the thread keeps it so
pub turn_within : (program : Program) (m : MonitorWorld) (t : ℕ) → HasFramesWithin program m t → HasFramesWithin program (monitor_step program m t) t
unfolding monitor_step
turn_within program m t w = by (turn_of program m t)
  where
    by : (turn : MonitorTurn) → HasFramesWithin program (step_as program t m turn) t
    by idle = w
    by plain = released_within program t (turned program t m plain)
    by raises_null = released_within program t (turned program t m raises_null)
    by (takes lock) = released_within program t (turned program t m (takes lock))
    by (gives lock) = released_within program t (turned program t m (gives lock))
    by (calls_locked callee) = released_within program t (turned program t m (calls_locked callee))
