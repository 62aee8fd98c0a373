-- Where the threads of the world in memory stand.
use Rattle.std.proofs.Common.{◌≡◌, ◌≢◌, suc, Bool, true, false, not, cond, List, ◌∷◌, length, Option, Some, None, refl, ap, ◌∙◌}
use Rattle.std.specs.Prelude.{filter, option_and_then}
use Rattle.jc_programs.specs.declared.program.Program.{Program}
use Rattle.jc_machine_model.specs.Heap.{HeapObject}
use Rattle.jc_machine_model.specs.World.{Frame, Thread, running, returned, threw, stuck}
use Rattle.jc_machine_model.specs.Step.{is_init_method, counted_frames}
use Rattle.jc_machine_model.specs.Laws.{IsOver}
use Rattle.jc_machine_model.specs.Standings.{standing_of, no_value, top_of_thread}
use Rattle.jc_machine_model.specs.Locked.{monitor_of_thread, callee_of_thread}

-- ---- counting frames

-- one frame more than those that wait, or as many, if the one on top is of `$jacocoInit`
pub depth_is : (program : Program) (f : Frame) (waiting : List Frame) (z : Bool) → is_init_method program f.method ≡ z
    → counted_frames program (f ∷ waiting) ≡ cond z (counted_frames program waiting) (suc (counted_frames program waiting))
depth_is program f waiting z e =
    ap (λ y. length (cond (not y) (f ∷ filter (λ (g : Frame). not (is_init_method program g.method)) waiting)
    (filter (λ (g : Frame). not (is_init_method program g.method)) waiting))) e ∙ by z
  where
    by : (y : Bool) → length (cond (not y) (f ∷ filter (λ (g : Frame). not (is_init_method program g.method)) waiting)
        (filter (λ (g : Frame). not (is_init_method program g.method)) waiting))
        ≡ cond y (counted_frames program waiting) (suc (counted_frames program waiting))
    by true = refl
    by false = refl

-- ---- threads that don't run

pub over_stands : (program : Program) (thread : Thread) → IsOver thread → standing_of program thread ≡ None
over_stands program (running f waiting) o = absurd o
over_stands program (returned v) o = refl
over_stands program (threw c) o = refl
over_stands program (stuck method place) o = refl

pub over_top : (heap : List HeapObject) (thread : Thread) → IsOver thread → top_of_thread heap (Some thread) ≡ no_value
over_top heap (running f waiting) o = absurd o
over_top heap (returned v) o = refl
over_top heap (threw c) o = refl
over_top heap (stuck method place) o = refl

pub over_callee : (program : Program) (thread : Thread) → IsOver thread → callee_of_thread program thread ≡ None
over_callee program (running f waiting) o = absurd o
over_callee program (returned v) o = refl
over_callee program (threw c) o = refl
over_callee program (stuck method place) o = refl

pub over_monitor : (program : Program) (thread : Thread) → IsOver thread → monitor_of_thread program thread ≡ None
over_monitor program (running f waiting) o = absurd o
over_monitor program (returned v) o = refl
over_monitor program (threw c) o = refl
over_monitor program (stuck method place) o = refl

-- what is told of threads that run alone is told of one that runs
abbrev pub Runs : Option Thread → Type 0
Runs o = (f : Frame) × (waiting : List Frame) × (o ≡ Some (running f waiting))

pub runs_if : {X : Type 0} (told : Thread → Option X) → ((thread : Thread) → IsOver thread → told thread ≡ None) → (o : Option Thread)
    → option_and_then told o ≢ None → Runs o
runs_if told none None some = absurd (some refl)
runs_if told none (Some (running f waiting)) some = (f, waiting, refl)
runs_if told none (Some (returned v)) some = absurd (some (none (returned v) tt))
runs_if told none (Some (threw c)) some = absurd (some (none (threw c) tt))
runs_if told none (Some (stuck method place)) some = absurd (some (none (stuck method place) tt))
