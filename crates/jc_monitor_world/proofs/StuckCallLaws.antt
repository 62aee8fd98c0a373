-- A call of a synchronized method that makes no frame, where there is room for one, leaves the thread stuck, as a turn of its own does.
use Rattle.std.proofs.Common.{◌≡◌, ℕ, suc, ◌<◌, Bool, true, false, not, ◌&&◌, cond, List, ◌∷◌, length, filter, Option, Some, None, nat_le, nat_lt, refl, sym, ap, ◌∙◌, arith}
use Rattle.std.specs.Prelude.{slice_get, option_and_then}
use Rattle.std.proofs.lemmas.Bool.{and_parts, not-true, true≢false, lt-ltb, lt-leb}
use Rattle.jc_bytes.proofs.OptionLaws.{none_some}
use Rattle.jc_methods.specs.declared.body.Body.{Body}
use Rattle.jc_methods.specs.DescriptorTypes.{method_type_in}
use Rattle.jc_programs.specs.declared.program.Program.{Program}
use Rattle.jc_programs.specs.declared.run_end.Entry.{Entry}
use Rattle.jc_programs.specs.declared.run_end.Thrown.TheVariants as thrown
use Rattle.jc_programs.specs.Members.{body_of}
use Rattle.jc_machine_model.specs.Methods.{is_init_name, is_synchronized, is_plain}
use Rattle.jc_machine_model.specs.World.{Frame, Thread, running, returned, threw, stuck, Shared, World}
use Rattle.jc_machine_model.specs.Calls.{Arguments, taken_for, by_call, locals_for}
use Rattle.jc_machine_model.specs.Results.{gets_stuck}
use Rattle.jc_machine_model.specs.Perform.{perform}
use Rattle.jc_machine_model.specs.Profile.{in_init}
use Rattle.jc_machine_model.specs.Step.{LocatedInsn, located, operation_at, result_of, most_frames, named_init, is_init_method, counted_frames, new_frame, placed, thrown_in, After, after, after_result, with_after, step}
use Rattle.jc_machine_model.specs.Fits.{called_by}
use Rattle.jc_machine_model.specs.Standings.{standing_of}
use Rattle.jc_machine_model.specs.Locked.{turn_by_of, turn_by, locked_method, locked_call, callee_of_frame, callee_of_thread, callee, call_of, call_to, calling}
use Rattle.jc_machine_model.proofs.PairLaws.{set_here}
use Rattle.jc_machine_model.proofs.LockedLaws.{step_is_turn_by}
use Rattle.jc_machine_laws.proofs.LockedLaws.{IsLockedMethod, locked_is}
use Rattle.jc_machine_laws.proofs.CallLaws.{body_is}
use Rattle.jc_monitor_model.specs.MonitorStep.{depth_in, depth}
use Rattle.jc_machine_code.proofs.LockedLaws.{locked_outside}

-- ---- the method that is called

module _ (program : Program) (f : Frame) (method : Entry) (e : callee_of_frame program f ≡ Some method) where
  -- the thread itself doesn't execute the call
  pub own_result : (s : Shared) → result_of program s f ≡ gets_stuck
  unfolding perform
  own_result s = by (located program f.method f.place) e
    where
      by : (o : Option LocatedInsn) → locked_call program o ≡ Some method → perform (operation_at program o) s f ≡ gets_stuck
      by None q = absurd (none_some q)
      by (Some i) q = ap (λ operation. perform operation s f) (locked_outside program i.at method i.insn q)

  is_locked_one : IsLockedMethod program method
  is_locked_one = by (located program f.method f.place) e
    where
      by : (o : Option LocatedInsn) → locked_call program o ≡ Some method → IsLockedMethod program method
      by None q = absurd (none_some q)
      by (Some i) q = out (in_init i.at) q
        where
          out : (z : Bool) → cond z None (locked_method program (called_by program i.at i.insn)) ≡ Some method → IsLockedMethod program method
          out true r = absurd (none_some r)
          out false r = (locked_is program (called_by program i.at i.insn) method r).1

  -- it isn't named `$jacocoInit`
  pub not_init : is_init_method program method ≡ false
  not_init =
      let it = is_locked_one in
      let parts = and_parts (is_plain it.linked it.body) (is_synchronized it.body && not (is_init_name it.body.name)) it.locked in
      let other = not-true (is_init_name it.body.name) (and_parts (is_synchronized it.body) (not (is_init_name it.body.name)) parts.1).1 in
      ap named_init (body_is program method it.linked it.body it.class_is it.body_is) ∙ other

-- ---- a call that isn't deeper

-- how deep a thread is then
abbrev depth_after : Program → After → ℕ
depth_after program a = depth_in (standing_of program a.thread)

module _ (program : Program) (s : Shared) (f : Frame) (waiting : List Frame) (method : Entry) (other : is_init_method program method ≡ false)
    (few : counted_frames program (f ∷ waiting) < most_frames) where
  no_overflow : nat_le most_frames (counted_frames program (f ∷ waiting)) ≡ false
  no_overflow = lt-leb most_frames (counted_frames program (f ∷ waiting)) few

  -- a frame that is made is one frame more
  deeper_with : (a : Arguments) (max_locals : ℕ)
      → depth_after program (after_result program (by_call method max_locals (Some a) f) s f waiting) ≡ suc (counted_frames program (f ∷ waiting))
  deeper_with a max_locals =
      ap (λ z. depth_after program (cond z (thrown_in program (placed thrown.StackOverflowError s) (f ∷ waiting))
      (after (running made (calling_frame ∷ waiting)) s)))
      (ap (λ z. not (is_init_method program method) && z) no_overflow ∙ and_no (not (is_init_method program method)))
      ∙ one_more (is_init_method program method) other (not (is_init_method program f.method))
    where
      made : Frame
      made = new_frame method (locals_for max_locals a.values)

      calling_frame : Frame
      calling_frame = record f { stack = a.rest }

      others : List Frame
      others = filter (λ (g : Frame). not (is_init_method program g.method)) waiting

      and_no : (z : Bool) → (z && false) ≡ false
      and_no true = refl
      and_no false = refl

      one_more : (x : Bool) → x ≡ false → (z : Bool)
          → length (cond (not x) (made ∷ cond z (calling_frame ∷ others) others) (cond z (calling_frame ∷ others) others))
          ≡ suc (length (cond z (f ∷ others) others))
      one_more false q true = refl
      one_more false q false = refl
      one_more true q z = absurd (true≢false q)

  -- where none is made, it is stuck
  stuck_there : (o : Option Body)
      → nat_lt (counted_frames program (f ∷ waiting)) (depth_after program (after_result program (call_of o method f) s f waiting)) ≡ false
      → call_of o method f ≡ gets_stuck
  stuck_there None less = refl
  stuck_there (Some b) less = by (taken_for (method_type_in b.desc).parameters f.stack) less
    where
      by : (o : Option Arguments)
          → nat_lt (counted_frames program (f ∷ waiting)) (depth_after program (after_result program (by_call method b.max_locals o f) s f waiting)) ≡ false
          → by_call method b.max_locals o f ≡ gets_stuck
      by None less = refl
      by (Some a) less =
          absurd (true≢false (sym (lt-ltb (counted_frames program (f ∷ waiting)) (suc (counted_frames program (f ∷ waiting))) (omega arith))
          ∙ (ap (nat_lt (counted_frames program (f ∷ waiting))) (sym (deeper_with a b.max_locals)) ∙ less)))

-- ---- the turn

module _ (program : Program) (w : World) (t : ℕ) (within : t < length w.threads) (method : Entry) (e : callee program w t ≡ Some method)
    (few : depth program w t < most_frames) where
  -- how deep the thread is behind a turn
  depth_there : (a : After) → depth program (with_after t w a) t ≡ depth_after program a
  depth_there a = ap (λ o. depth_in (option_and_then (standing_of program) o)) (set_here w.threads t a.thread within)

  -- a call that makes no frame leaves what a turn of the thread's own does
  pub call_is_step : nat_lt (depth program w t) (depth program (turn_by program (calling program) w t) t) ≡ false
      → turn_by program (calling program) w t ≡ step program w t
  call_is_step less = by (slice_get w.threads t) e few less ∙ sym (step_is_turn_by program w t)
    where
      by : (o : Option Thread) → option_and_then (callee_of_thread program) o ≡ Some method
          → depth_in (option_and_then (standing_of program) o) < most_frames
          → nat_lt (depth_in (option_and_then (standing_of program) o)) (depth program (turn_by_of program (calling program) w t o) t) ≡ false
          → turn_by_of program (calling program) w t o ≡ turn_by_of program (result_of program) w t o
      by None q few less = absurd (none_some q)
      by (Some (running f waiting)) q few less =
          ap (λ r. with_after t w (after_result program r w.shared f waiting))
          (ap (λ o. call_to program o f) q
          ∙ (stuck_there program w.shared f waiting method (not_init program f method q) few (body_of program method)
          (ap (nat_lt (counted_frames program (f ∷ waiting)))
          (ap (λ o. depth_after program (after_result program (call_to program o f) w.shared f waiting)) (sym q)
          ∙ sym (depth_there (after_result program (calling program w.shared f) w.shared f waiting))) ∙ less)
          ∙ sym (own_result program f method q w.shared)))
      by (Some (returned v)) q few less = absurd (none_some q)
      by (Some (threw c)) q few less = absurd (none_some q)
      by (Some (stuck method place)) q few less = absurd (none_some q)
