-- A turn in a program without frames.
use Rattle.std.proofs.Common.{◌≡◌, ℕ, ℤ, Bool, true, false, ◌&&◌, not, List, [], ◌∷◌, length, filter, map, Option, None, Some}
use Rattle.std.proofs.Common.{option_map, option_and_then, nat_le, refl, ap, ap₂, ◌∙◌, if◌then◌else◌}
use Rattle.std.specs.List.{slice_get}
use Rattle.jc_methods.specs.declared.body.Body.{Body}
use Rattle.jc_methods.specs.declared.body.Handler.{Handler}
use Rattle.jc_methods.specs.declared.insn.Insn.{Insn}
use Rattle.jc_programs.specs.declared.program.Program.{Program}
use Rattle.jc_programs.specs.declared.program.Linked.{Linked}
use Rattle.jc_programs.specs.declared.run_end.Entry.{Entry}
use Rattle.jc_programs.specs.declared.run_end.Thrown.{Thrown}
use Rattle.jc_programs.specs.declared.run_end.Thrown.TheVariants as thrown
use Rattle.jc_programs.specs.declared.run_plan.Case.{Case}
use Rattle.jc_programs.specs.declared.run_plan.ThreadLine.{ThreadLine}
use Rattle.jc_programs.specs.Members.{class_at, body_of}
use Rattle.jc_machine_model.specs.Begin.{first_value, thread_for, thread_in, first_frame, first_statics, first_thread}
use Rattle.jc_machine_model.specs.Begin.{first_threads, begin, entries_of, begin_case}
use Rattle.jc_machine_model.specs.Operations.{Operation}
use Rattle.jc_machine_model.specs.Perform.{perform}
use Rattle.jc_machine_model.specs.Results.{Result, goes, hits, calls, leaves, raises, throws, gets_stuck}
use Rattle.jc_machine_model.specs.Run.{run_from, run}
use Rattle.jc_machine_model.specs.Step.{LocatedInsn, located_in_body, located_in_class, located, operation_at, result_of}
use Rattle.jc_machine_model.specs.Step.{handler_in, handler_of, caught, unwound, Raised, placed, named_init, is_init_method}
use Rattle.jc_machine_model.specs.Step.{counted_frames, overflows, most_frames, new_frame, After, after, thrown_in, after_result}
use Rattle.jc_machine_model.specs.Step.{turn_of, with_after, step_of, step}
use Rattle.jc_machine_model.specs.Values.{Value}
use Rattle.jc_machine_model.specs.World.{Frame, Thread, running, returned, threw, stuck, Shared, World}
use Rattle.jc_machine_laws.specs.Frameless.{frameless_body, frameless_class, frameless}
use Rattle.jc_machine_laws.proofs.FramelessLookupLaws.{same_class_at, same_body_at, same_body_of, same_entry, same_enterable}
use Rattle.jc_machine_laws.proofs.FramelessOperationLaws.{frameless_at, same_operation}

-- ---- the instruction of a frame

abbrev pub frameless_insn : LocatedInsn → LocatedInsn
frameless_insn i = record { at = frameless_at i.at; insn = i.insn }

-- the instruction at a place of a method of this class
abbrev insn_at : Entry → (place : ℕ) → Linked → Option LocatedInsn
insn_at method place c = located_in_class method.class place c (slice_get c.bodies method.method)

-- the thread of an entry whose class has this body, if it has one
abbrev thread_with : Entry → List ℤ → Linked → Option Body → Thread
thread_with entry numbers c o = elim o [ None ↦ stuck entry 0 | Some b ↦ thread_in entry numbers c b ]

module _ (p : Program) where
  pub same_located : (method : Entry) (place : ℕ) → located (frameless p) method place ≡ option_map frameless_insn (located p method place)
  same_located method place =
      ap (option_and_then (insn_at method place)) (same_class_at p method.class) ∙ by (class_at p method.class)
    where
      in_body : (c : Linked) (b : Body) (o : Option Insn)
          → located_in_body method.class (frameless_class c) place (frameless_body b) o ≡ option_map frameless_insn
          (located_in_body method.class c place b o)
      in_body c b None = refl
      in_body c b (Some i) = refl

      in_class : (c : Linked) (o : Option Body)
          → located_in_class method.class place (frameless_class c) (option_map frameless_body o) ≡ option_map frameless_insn
          (located_in_class method.class place c o)
      in_class c None = refl
      in_class c (Some b) = in_body c b (slice_get b.code place)

      by : (o : Option Linked) → option_and_then (insn_at method place) (option_map frameless_class o) ≡ option_map frameless_insn
          (option_and_then (insn_at method place) o)
      by None = refl
      by (Some c) = ap (located_in_class method.class place (frameless_class c)) (same_body_at c method.method) ∙ in_class c (slice_get c.bodies method.method)

  pub same_at : (o : Option LocatedInsn) → operation_at (frameless p) (option_map frameless_insn o) ≡ operation_at p o
  same_at None = refl
  same_at (Some i) = same_operation p i.at i.insn

  pub same_result : (s : Shared) (f : Frame) → result_of (frameless p) s f ≡ result_of p s f
  same_result s f =
      ap (λ (o : Operation). perform o s f) (ap (operation_at (frameless p)) (same_located f.method f.place) ∙ same_at (located p f.method f.place))

  -- ---- throwing

  same_handler : (c : Thrown) (f : Frame) → handler_of (frameless p) c f ≡ handler_of p c f
  same_handler c f = ap (option_and_then (handler_in f.place c)) (same_body_of p f.method) ∙ by (body_of p f.method)
    where
      by : (o : Option Body) → option_and_then (handler_in f.place c) (option_map frameless_body o) ≡ option_and_then (handler_in f.place c) o
      by None = refl
      by (Some b) = refl

  same_unwound : (c : Thrown) (v : Value) (frames : List Frame) → unwound (frameless p) c v frames ≡ unwound p c v frames
  same_unwound c v [] = refl
  same_unwound c v (f ∷ waiting) = ap₂ (λ (h : Option Handler) (t : Thread). caught h v f waiting t) (same_handler c f) (same_unwound c v waiting)

  same_thrown : (r : Raised) (frames : List Frame) → thrown_in (frameless p) r frames ≡ thrown_in p r frames
  same_thrown r frames = ap (λ (t : Thread). after t (record r.shared { raised = true })) (same_unwound r.thrown r.value frames)

  -- ---- calls

  same_init : (method : Entry) → is_init_method (frameless p) method ≡ is_init_method p method
  same_init method = ap named_init (same_body_of p method) ∙ by (body_of p method)
    where
      by : (o : Option Body) → named_init (option_map frameless_body o) ≡ named_init o
      by None = refl
      by (Some b) = refl

  pub same_counted : (frames : List Frame) → counted_frames (frameless p) frames ≡ counted_frames p frames
  same_counted frames = ap (λ (t : Frame → Bool). length (filter t frames)) (λ i f. not (same_init f.method i))

  same_overflows : (callee : Entry) (frames : List Frame) → overflows (frameless p) callee frames ≡ overflows p callee frames
  same_overflows callee frames = ap₂ (λ (b : Bool) (n : ℕ). not b && nat_le most_frames n) (same_init callee) (same_counted frames)

  -- ---- a turn

  pub same_after : (r : Result) (s : Shared) (f : Frame) (waiting : List Frame) → after_result (frameless p) r s f waiting ≡ after_result p r s f waiting
  same_after (goes s' g) s f waiting = refl
  same_after (hits class id g) s f waiting = refl
  same_after (calls callee locals g) s f waiting =
      ap₂ (λ (b : Bool) (a : After). if b then a else after (running (new_frame callee locals) (g ∷ waiting)) s) (same_overflows callee (f ∷ waiting))
      (same_thrown (placed thrown.StackOverflowError s) (f ∷ waiting))
  same_after (leaves v) s f waiting = refl
  same_after (raises c) s f waiting = same_thrown (placed c s) (f ∷ waiting)
  same_after (throws c v) s f waiting = same_thrown (record { thrown = c; value = v; shared = s }) (f ∷ waiting)
  same_after gets_stuck s f waiting = refl

  same_turn : (s : Shared) (t : Thread) → turn_of (frameless p) s t ≡ turn_of p s t
  same_turn s (running f waiting) = ap (λ (r : Result). after_result (frameless p) r s f waiting) (same_result s f) ∙ same_after (result_of p s f) s f waiting
  same_turn s (returned v) = refl
  same_turn s (threw c) = refl
  same_turn s (stuck method place) = refl

  pub same_step : (w : World) (t : ℕ) → step (frameless p) w t ≡ step p w t
  unfolding step
  same_step w t = by (slice_get w.threads t)
    where
      by : (o : Option Thread) → step_of (frameless p) w t o ≡ step_of p w t o
      by None = refl
      by (Some thread) = ap (with_after t w) (same_turn w.shared thread)

  same_run_from : (w : World) (turns : List ℕ) → run_from (frameless p) w turns ≡ run_from p w turns
  same_run_from w [] = refl
  same_run_from w (t ∷ turns) = ap (λ (v : World). run_from (frameless p) v turns) (same_step w t) ∙ same_run_from (step p w t) turns

  -- ---- the first world

  same_statics : first_statics (frameless p) ≡ first_statics p
  same_statics = by p.classes
    where
      by : (classes : List Linked) → map (λ (c : Linked). map first_value c.statics) (map frameless_class classes) ≡ map
          (λ (c : Linked). map first_value c.statics) classes
      by [] = refl
      by (c ∷ classes) = ap (λ (l : List (List Value)). map first_value c.statics ∷ l) (by classes)

  same_first : (entry : Entry) (numbers : List ℤ) → first_thread (frameless p) entry numbers ≡ first_thread p entry numbers
  same_first entry numbers = ap (thread_for entry numbers) (same_class_at p entry.class) ∙ by (class_at p entry.class)
    where
      in_class : (c : Linked) (o : Option Body) → thread_with entry numbers (frameless_class c) (option_map frameless_body o) ≡ thread_with entry numbers c o
      in_class c None = refl
      in_class c (Some b) = ap (λ (e : Bool). if e then running (first_frame entry b numbers) [] else stuck entry 0) (same_enterable c b)

      by : (o : Option Linked) → thread_for entry numbers (option_map frameless_class o) ≡ thread_for entry numbers o
      by None = refl
      by (Some c) =
          ap (thread_with entry numbers (frameless_class c)) (same_body_at c entry.method) ∙ in_class c (slice_get c.bodies entry.method)

  same_threads : (threads : List ThreadLine) (entries : List Entry) → first_threads (frameless p) threads entries ≡ first_threads p threads entries
  same_threads [] entries = refl
  same_threads (t ∷ threads) [] = refl
  same_threads (t ∷ threads) (e ∷ entries) = ap₂ (λ (x : Thread) (xs : List Thread). x ∷ xs) (same_first e t.args) (same_threads threads entries)

  pub same_begin : (threads : List ThreadLine) (entries : List Entry) → begin (frameless p) threads entries ≡ begin p threads entries
  unfolding begin
  same_begin threads entries =
      ap₂ (λ (ts : List Thread) (statics : List (List Value)).
      let w : World = record { threads = ts; shared = record { statics = statics; heap = []; output = []; raised = false }; hits = [] } in w)
      (same_threads threads entries) same_statics

  pub same_entries : (threads : List ThreadLine) → entries_of (frameless p) threads ≡ entries_of p threads
  same_entries [] = refl
  same_entries (t ∷ threads) =
      ap₂ (λ (o : Option Entry) (l : List Entry). elim o [ None ↦ l | Some entry ↦ entry ∷ l ]) (same_entry p t) (same_entries threads)

  pub same_run : (case : Case) (turns : List ℕ) → run (frameless p) case turns ≡ run p case turns
  same_run case turns =
      ap (λ (w : World). run_from (frameless p) w turns)
      (ap (begin (frameless p) case.threads) (same_entries case.threads) ∙ same_begin case.threads (entries_of p case.threads))
      ∙ same_run_from (begin_case p case) turns
