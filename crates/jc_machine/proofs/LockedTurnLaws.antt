-- Turns in which a thread comes to a given result, of the world in memory.
use Rattle.std.proofs.Common.{◌≡◌, ◌≢◌, ℕ, zero, suc, ◌<◌, Bool, true, false, cond, List, [], ◌∷◌, length, take, drop, Option, Some, None, refl, sym, ap, ◌∙◌, subst}
use Rattle.std.proofs.Common.{slice_get, slice_set, slice_index_or}
use Rattle.std.specs.Prelude.{option_and_then}
use Rattle.std.proofs.lemmas.List.{length-set}
use Rattle.jc_methods.specs.declared.body.Body.{Body}
use Rattle.jc_methods.specs.DescriptorTypes.{method_type_in}
use Rattle.jc_programs.specs.declared.program.Program.{Program}
use Rattle.jc_programs.specs.declared.run_end.Entry.{Entry}
use Rattle.jc_programs.specs.declared.run_end.End.{End}
use Rattle.jc_programs.specs.declared.run_end.End.TheVariants as ends
use Rattle.jc_programs.specs.declared.run_end.Thrown.{Thrown}
use Rattle.jc_programs.specs.declared.run_end.Thrown.TheVariants as thrown
use Rattle.jc_programs.specs.Members.{body_of}
use Rattle.jc_machine_model.specs.Programs.{IsProgram}
use Rattle.jc_machine_model.specs.Values.{Value}
use Rattle.jc_machine_model.specs.World.{Frame, Thread, running, Shared, Hit, World}
use Rattle.jc_machine_model.specs.Results.{Result, next_with}
use Rattle.jc_machine_model.specs.Calls.{Arguments, taken_for, by_call, locals_for}
use Rattle.jc_machine_model.specs.Step.{After, after, after_result, counted_frames, overflows, new_frame, placed, thrown_in}
use Rattle.jc_machine_model.specs.Fits.{FitsWorld}
use Rattle.jc_machine_model.specs.Standings.{standing_of, stands, no_value, top_of, top_of_thread, top_in}
use Rattle.jc_machine_model.specs.Locked.{turn_to, turn_by_of, turn_by, monitor_of_thread, monitor_at, dropped, dropping, raising, callee_of_frame, callee_of_thread, callee, call_of, call_to, calling}
use Rattle.jc_machine_laws.proofs.LockedLaws.{call_lands}
use Rattle.jc_machine_laws.proofs.LockedTurnLaws.{raising_fits, dropping_fits, calling_fits}
use Rattle.jc_machine.specs.declared.world.World.TheInside.{Inside}
use Rattle.jc_machine.specs.declared.thread_turn.ThreadTurn.{ThreadTurn}
use Rattle.jc_machine.specs.Room.{AreBounded}
use Rattle.jc_machine.specs.Threads.{ThreadFrames, thread_of, threads_of}
use Rattle.jc_machine.specs.Turned.{alone, after_of, FitsAfter}
use Rattle.jc_machine.specs.Machines.{Machine, world_of, Fits}
use Rattle.jc_machine.specs.Kept.{memories_of, machine_of, IsMachine}
use Rattle.jc_machine.proofs.MachineLaws.{alone_fits, memories_set, runs_at, runs_by, acted_world}
use Rattle.jc_machine.proofs.StandingLaws.{Runs, runs_if, over_stands, over_monitor, over_callee}
use Rattle.jc_machine.proofs.TurnLaws.{alone_bounded, alone_counts}

-- ---- worlds

-- turns leave as many threads as there were
pub turn_by_threads : (program : Program) (act : Shared → Frame → Result) (w : World) (t : ℕ)
    → length (turn_by program act w t).threads ≡ length w.threads
turn_by_threads program act w t = by (slice_get w.threads t)
  where
    by : (o : Option Thread) → length (turn_by_of program act w t o).threads ≡ length w.threads
    by None = refl
    by (Some thread) = length-set w.threads t (turn_to program act w.shared thread).thread

-- a thread that runs stays one that runs
pub ends_same : (es : List End) (t : ℕ) → slice_index_or es t ends.Running ≡ ends.Running → slice_set es t ends.Running ≡ es
ends_same [] t e = refl
ends_same (x ∷ es) zero e = ap (λ y. y ∷ es) (sym e)
ends_same (x ∷ es) (suc t) e = ap (λ ys. x ∷ ys) (ends_same es t e)

-- ---- what turns come to

-- a turn that hits nothing
pub unhit : (turn : ThreadTurn) (next : ThreadFrames) (s : Shared) (a : After) → after_of turn next s ≡ a → a.hits ≡ []
    → after (thread_of turn.end next) s ≡ a
unhit turn next s a e none =
    ap (λ (h : List Hit). record { thread = thread_of turn.end next; shared = s; hits = h }) (sym (ap (λ (x : After). x.hits) e ∙ none)) ∙ e

pub call_hits : (program : Program) (method : Entry) (s : Shared) (f : Frame) (waiting : List Frame)
    → (after_result program (call_of (body_of program method) method f) s f waiting).hits ≡ []
call_hits program method s f waiting = in_body (body_of program method)
  where
    over : (z : Bool) (locals : List (Option Value)) (g : Frame)
        → (cond z (thrown_in program (placed thrown.StackOverflowError s) (f ∷ waiting)) (after (running (new_frame method locals) (g ∷ waiting)) s)).hits ≡ []
    over true locals g = refl
    over false locals g = refl

    taken : (n : ℕ) (o : Option Arguments) → (after_result program (by_call method n o f) s f waiting).hits ≡ []
    taken n None = refl
    taken n (Some a) = over (overflows program method (f ∷ waiting)) (locals_for n a.values) (record f { stack = a.rest })

    in_body : (o : Option Body) → (after_result program (call_of o method f) s f waiting).hits ≡ []
    in_body None = refl
    in_body (Some b) = taken b.max_locals (taken_for (method_type_in b.desc).parameters f.stack)

-- the operand on top is dropped
pub drops : (program : Program) (s : Shared) (f : Frame) (waiting : List Frame) → (f.stack ≡ [] → ⊥)
    → after (running (next_with f (drop 1 f.stack)) waiting) s ≡ after_result program (dropped s f f.stack) s f waiting
drops program s f waiting some = by f.stack some
  where
    by : (stack : List Value) → (stack ≡ [] → ⊥)
        → after (running (next_with f (drop 1 stack)) waiting) s ≡ after_result program (dropped s f stack) s f waiting
    by [] some = absurd (some refl)
    by (v ∷ stack) some = refl

-- ---- the thread that takes the turn

-- its frames, where it is known to run
module _ (w : Inside) (is : IsMachine w) (t : ℕ) (less : t < length (machine_of w).threads) (program : Program) (frames : ThreadFrames)
    (frames_is : frames ≡ slice_index_or w.stacks.items t frames) where
  module _ (runs : Runs (slice_get (machine_of w).threads t)) where
    pub is_running : slice_index_or w.ends t ends.Running ≡ ends.Running
    is_running = runs_by w is t less runs.0 runs.1 runs.2

    pub stands_there : slice_get (machine_of w).threads t ≡ Some (running frames.top frames.waiting)
    stands_there = runs_at w is t less frames is_running frames_is

    pub there_alone : FitsWorld program (world_of (machine_of w)) → FitsWorld program (alone w.shared.content frames)
    there_alone fits = alone_fits program (world_of (machine_of w)) t frames fits stands_there

    pub there_bounded : IsProgram program → FitsWorld program (world_of (machine_of w)) → AreBounded frames.top frames.waiting
    there_bounded p fits = alone_bounded program w.shared.content frames p (there_alone fits)

  pub runs_standing : stands program (world_of (machine_of w)) t ≢ None → Runs (slice_get (machine_of w).threads t)
  runs_standing some = runs_if (standing_of program) (over_stands program) (slice_get (machine_of w).threads t) some

  pub runs_monitor : monitor_at program (world_of (machine_of w)) t ≢ None → Runs (slice_get (machine_of w).threads t)
  runs_monitor some = runs_if (monitor_of_thread program) (over_monitor program) (slice_get (machine_of w).threads t) some

  pub runs_callee : callee program (world_of (machine_of w)) t ≢ None → Runs (slice_get (machine_of w).threads t)
  runs_callee some = runs_if (callee_of_thread program) (over_callee program) (slice_get (machine_of w).threads t) some

  -- it has an operand
  pub has_operand : (runs : Runs (slice_get (machine_of w).threads t)) → top_in (world_of (machine_of w)) t ≢ no_value → frames.top.stack ≡ [] → ⊥
  has_operand runs some none =
      some (ap (top_of_thread w.shared.content.heap) (stands_there runs) ∙ ap (top_of w.shared.content.heap) none)

  -- it stands at a call
  pub callee_there : (runs : Runs (slice_get (machine_of w).threads t))
      → callee program (world_of (machine_of w)) t ≡ callee_of_frame program frames.top
  callee_there runs = ap (option_and_then (callee_of_thread program)) (stands_there runs)

  -- what the call comes to fits
  pub call_fits : (runs : Runs (slice_get (machine_of w).threads t)) (method : Entry) → IsProgram program → FitsWorld program (world_of (machine_of w))
      → callee_of_frame program frames.top ≡ Some method
      → FitsAfter program (after_result program (call_of (body_of program method) method frames.top) w.shared.content frames.top frames.waiting)
  call_fits runs method p fits e =
      let one = there_alone runs fits in
      (call_lands program p w.shared.content frames.top frames.waiting (record { statics = one.statics; there = one.there }) (one.threads).0 method e).thread

-- the call is that of the turn
pub calling_is : (program : Program) (s : Shared) (f : Frame) (waiting : List Frame) (method : Entry) → callee_of_frame program f ≡ Some method
    → after_result program (calling program s f) s f waiting ≡ after_result program (call_of (body_of program method) method f) s f waiting
calling_is program s f waiting method e = ap (λ o. after_result program (call_to program o f) s f waiting) e

-- ---- the calls

some_of : {X : Type 0} (o : Option X) → o ≢ None → (x : X) × (o ≡ Some x)
some_of None some = absurd (some refl)
some_of (Some x) some = (x, refl)

module _ (w : Inside) (is : IsMachine w) (m : Machine) (view : machine_of w ≡ m) (t : ℕ) (less : t < length m.threads)
    (program : Program) (p : IsProgram program) (fits : Fits program m) (frames : ThreadFrames) (frames_is : frames ≡ slice_index_or w.stacks.items t frames) where
  inside : t < length (machine_of w).threads
  inside = subst (λ (x : Machine). t < length x.threads) (sym view) less

  whole : Fits program (machine_of w)
  whole = subst (Fits program) (sym view) fits

  -- a machine with the world behind the turn
  pub next_fits : (act : Shared → Frame → Result) (next : World) → next ≡ turn_by program act (world_of m) t
      → FitsWorld program (turn_by program act (world_of m) t) → FitsWorld program next
  next_fits act next e fine = subst (FitsWorld program) (sym e) fine

  pub frames_memory : (next : ThreadFrames) → next.memory ≡ frames.memory → memories_of (slice_set w.stacks.items t next) ≡ memories_of w.stacks.items
  frames_memory next same = memories_set w.stacks.items t frames next frames_is same

  pub next_threads : (act : Shared → Frame → Result) (next : World) → next ≡ turn_by program act (world_of m) t → length next.threads ≡ length m.threads
  next_threads act next e = ap (λ (x : World). length x.threads) e ∙ turn_by_threads program act (world_of m) t

  module _ (runs : Runs (slice_get (machine_of w).threads t)) where
    pub turn_world : (act : Shared → Frame → Result) (end : End) (next : ThreadFrames) (s : Shared)
        → after (thread_of end next) s ≡ after_result program (act w.shared.content frames.top) w.shared.content frames.top frames.waiting
        → record { threads = threads_of (take w.count (slice_set w.ends t end)) (slice_set w.stacks.items t next); shared = s; hits = [] }
        ≡ turn_by program act (world_of m) t
    turn_world act end next s turned =
        acted_world w is t inside program act frames (is_running w is t inside program frames frames_is runs) frames_is end next s turned
        ∙ ap (λ (x : Machine). turn_by program act (world_of x) t) view

    pub turn_bounded : AreBounded frames.top frames.waiting
    turn_bounded = there_bounded w is t inside program frames frames_is runs p whole.world

  -- ---- the operand on top is dropped

  module _ (monitor : monitor_at program (world_of m) t ≢ None) where
    pub drop_runs : Runs (slice_get (machine_of w).threads t)
    drop_runs = runs_monitor w is t inside program frames frames_is
        (subst (λ (x : Machine). monitor_at program (world_of x) t ≢ None) (sym view) monitor)

    pub drop_world : top_in (world_of m) t ≢ no_value → (next : ThreadFrames)
        → next ≡ record frames { top = next_with frames.top (drop 1 frames.top.stack) }
        → record { threads = threads_of (take w.count w.ends) (slice_set w.stacks.items t next); shared = w.shared.content; hits = [] }
        ≡ turn_by program dropping (world_of m) t
    drop_world some next e =
        let operand = has_operand w is t inside program frames frames_is drop_runs
        (subst (λ (x : Machine). top_in (world_of x) t ≢ no_value) (sym view) some) in
        let turned =
        ap (λ (x : ThreadFrames). after (running x.top x.waiting) w.shared.content) e
        ∙ drops program w.shared.content frames.top frames.waiting operand in
        ap (λ es. record { threads = threads_of (take w.count es) (slice_set w.stacks.items t next); shared = w.shared.content; hits = [] })
        (sym (ends_same w.ends t (is_running w is t inside program frames frames_is drop_runs)))
        ∙ turn_world drop_runs dropping ends.Running next w.shared.content turned

    pub drop_fine : FitsWorld program (turn_by program dropping (world_of m) t)
    drop_fine = let insn = some_of (monitor_at program (world_of m) t) monitor in dropping_fits program p (world_of m) t fits.world insn.0 insn.1

  -- ---- a throwable is raised

  module _ (stands_there : stands program (world_of m) t ≢ None) where
    pub raise_runs : Runs (slice_get (machine_of w).threads t)
    raise_runs = runs_standing w is t inside program frames frames_is
        (subst (λ (x : Machine). stands program (world_of x) t ≢ None) (sym view) stands_there)

    pub raise_world : (c : Thrown) (turn : ThreadTurn) (next : ThreadFrames) (s : Shared)
        → after_of turn next s ≡ thrown_in program (placed c w.shared.content) (frames.top ∷ frames.waiting)
        → record { threads = threads_of (take w.count (slice_set w.ends t turn.end)) (slice_set w.stacks.items t next); shared = s; hits = [] }
        ≡ turn_by program (raising c) (world_of m) t
    raise_world c turn next s e =
        turn_world raise_runs (raising c) turn.end next s
        (unhit turn next s (thrown_in program (placed c w.shared.content) (frames.top ∷ frames.waiting)) e refl)

    pub raise_fine : (c : Thrown) → FitsWorld program (turn_by program (raising c) (world_of m) t)
    raise_fine c = raising_fits program p (world_of m) t fits.world c

  -- ---- a synchronized method is called

  module _ (callee_is : callee program (world_of m) t ≢ None) where
    pub call_runs : Runs (slice_get (machine_of w).threads t)
    call_runs = runs_callee w is t inside program frames frames_is
        (subst (λ (x : Machine). callee program (world_of x) t ≢ None) (sym view) callee_is)

    callee_told : callee program (world_of m) t ≡ callee_of_frame program frames.top
    callee_told = subst (λ (x : Machine). callee program (world_of x) t ≡ callee_of_frame program frames.top) view
        (callee_there w is t inside program frames frames_is call_runs)

    -- there is one
    pub no_call : callee_of_frame program frames.top ≡ None → ⊥
    no_call e = callee_is (callee_told ∙ e)

    pub call_counted : counted_frames program frames.waiting ≡ length frames.waiting
    call_counted = alone_counts program w.shared.content frames p (there_alone w is t inside program frames frames_is call_runs whole.world)

    pub call_fitting : (method : Entry) → callee_of_frame program frames.top ≡ Some method
        → FitsAfter program (after_result program (call_of (body_of program method) method frames.top) w.shared.content frames.top frames.waiting)
    call_fitting method e = call_fits w is t inside program frames frames_is call_runs method p whole.world e

    pub call_world : (method : Entry) → callee_of_frame program frames.top ≡ Some method → (turn : ThreadTurn) (next : ThreadFrames) (s : Shared)
        → after_of turn next s ≡ after_result program (call_of (body_of program method) method frames.top) w.shared.content frames.top frames.waiting
        → record { threads = threads_of (take w.count (slice_set w.ends t turn.end)) (slice_set w.stacks.items t next); shared = s; hits = [] }
        ≡ turn_by program (calling program) (world_of m) t
    call_world method is_it turn next s e =
        turn_world call_runs (calling program) turn.end next s
        (unhit turn next s (after_result program (call_of (body_of program method) method frames.top) w.shared.content frames.top frames.waiting) e
        (call_hits program method w.shared.content frames.top frames.waiting)
        ∙ sym (calling_is program w.shared.content frames.top frames.waiting method is_it))

    pub call_fine : FitsWorld program (turn_by program (calling program) (world_of m) t)
    call_fine = let method = some_of (callee program (world_of m) t) callee_is in calling_fits program p (world_of m) t fits.world method.0 method.1
