-- Each turn keeps a world with locks fitting: its world fits the program, and each frame of a synchronized method has its class's lock.
use Rattle.std.proofs.Common.{◌≡◌, ◌≢◌, ⊎_elim, ℕ, suc, ◌<◌, ◌≤◌, Bool, true, false, not, List, [], ◌∷◌, length, Option, Some, None, nat_eq, nat_lt, refl, sym, ap, ◌∙◌, subst, arith, le_refl}
use Rattle.std.specs.Prelude.{slice_get, slice_set, slice_index_or, option_and_then}
use Rattle.std.proofs.lemmas.Bool.{eqb-true, eqb-false, eq-eqb, ne_eqb, ltb-true}
use Rattle.std.proofs.lemmas.List.{length-set, get_or-set_same, get_or-set_other}
use Rattle.jc_bytes.proofs.ListLaws.{all_at}
use Rattle.jc_programs.specs.declared.program.Program.{Program}
use Rattle.jc_programs.specs.declared.run_end.Entry.{Entry}
use Rattle.jc_programs.specs.declared.run_end.Thrown.TheVariants as thrown
use Rattle.jc_machine_model.specs.Programs.{IsProgram}
use Rattle.jc_machine_model.specs.World.{Frame, Thread, running, returned, threw, stuck, Shared, World}
use Rattle.jc_machine_model.specs.Results.{Result}
use Rattle.jc_machine_model.specs.Step.{most_frames, result_of, step}
use Rattle.jc_machine_model.specs.Fits.{FitsThread, FitsWorld}
use Rattle.jc_machine_model.specs.Standings.{standing_of, stands, top_in}
use Rattle.jc_machine_model.specs.Locked.{turn_to, turn_by_of, turn_by, dropping, raising, monitor_at, callee_of_thread, callee, calling}
use Rattle.jc_machine_model.proofs.PairLaws.{set_at}
use Rattle.jc_machine_model.proofs.LockedLaws.{step_is_turn_by}
use Rattle.jc_machine_laws.proofs.WorldLaws.{step_fits}
use Rattle.jc_machine_laws.proofs.LockedTurnLaws.{raising_fits, dropping_fits, calling_fits}
use Rattle.jc_monitor_model.specs.Locks.{Lock, of_object, of_class, Held, Access, free, its_own, another's, access, taken_by, given_by}
use Rattle.jc_monitor_model.specs.SynchronizedFrames.{SynchronizedFrame, frames_left, held_left}
use Rattle.jc_monitor_model.specs.MonitorWorld.{MonitorWorld, frames_of, in_world}
use Rattle.jc_monitor_model.specs.MonitorTurns.{MonitorTurn, idle, plain, raises_null, takes, gives, calls_locked, turn_of}
use Rattle.jc_monitor_model.specs.MonitorStep.{depth_in, depth, is_stuck_thread, is_stuck, with_frame, is_one_too_many, called_as, called_to, turned, released, after_release, step_as, monitor_step}
use Rattle.jc_monitor_model.specs.KeptLocks.{MayTake, times_taken, AreBelow, frames_in, deepest, AreFramesOf, AreLocks, AreCounted, KeepsLocks, KeepsLocksBut}
use Rattle.jc_monitor_model.proofs.AccessLaws.{taken_own, taken_others, taken_elsewhere, given_elsewhere}
use Rattle.jc_monitor_model.proofs.HeldLaws.{taken_locks, given_locks}
use Rattle.jc_monitor_world.proofs.TurnKindLaws.{AtObject, takes_object, gives_object, CallsFree, calls_free}
use Rattle.jc_monitor_model.proofs.FrameLaws.{below_higher, below_few, frames_in_first, frames_in_few, left_below, Releases, releases}

-- ---- numbers

differ : (a b : ℕ) → nat_eq a b ≡ false → b ≢ a
differ a b e = λ same. eqb-false a b e (sym same)

other_way : (a b : ℕ) → nat_eq a b ≡ false → nat_eq b a ≡ false
other_way a b e = ne_eqb b a (differ a b e)

-- ---- other threads

others_stay : (program : Program) (act : Shared → Frame → Result) (w : World) (t k : ℕ) → nat_eq t k ≡ false
    → slice_get (turn_by program act w t).threads k ≡ slice_get w.threads k
others_stay program act w t k e = by (slice_get w.threads t)
  where
    by : (o : Option Thread) → slice_get (turn_by_of program act w t o).threads k ≡ slice_get w.threads k
    by None = refl
    by (Some thread) =
        ⊎_elim (λ here. absurd (differ t k e here.0)) (λ stays. stays) (set_at w.threads t k (turn_to program act w.shared thread).thread)

as_many : (program : Program) (act : Shared → Frame → Result) (w : World) (t : ℕ) → length (turn_by program act w t).threads ≡ length w.threads
as_many program act w t = by (slice_get w.threads t)
  where
    by : (o : Option Thread) → length (turn_by_of program act w t o).threads ≡ length w.threads
    by None = refl
    by (Some thread) = length-set w.threads t (turn_to program act w.shared thread).thread

-- a world behind a turn of the thread
pub record IsTurned (w : World) (t : ℕ) (next : World) : Type 0 where
  others : (k : ℕ) → nat_eq t k ≡ false → slice_get next.threads k ≡ slice_get w.threads k
  count : length next.threads ≡ length w.threads

pub by_turned : (program : Program) (act : Shared → Frame → Result) (w : World) (t : ℕ) → IsTurned w t (turn_by program act w t)
by_turned program act w t = record { others = others_stay program act w t; count = as_many program act w t }

step_turned : (program : Program) (w : World) (t : ℕ) → IsTurned w t (step program w t)
step_turned program w t = subst (IsTurned w t) (sym (step_is_turn_by program w t)) (by_turned program (result_of program) w t)

-- ---- as many threads

called_count : (program : Program) (t : ℕ) (method : Entry) (m : MonitorWorld) (called : World) → length called.threads ≡ length m.world.threads
    → (deeper too_many : Bool) → length (called_as program t method m called deeper too_many).world.threads ≡ length m.world.threads
called_count program t method m called same false too_many = same
called_count program t method m called same true true = (step_turned program m.world t).count
called_count program t method m called same true false = same

pub turned_count : (program : Program) (t : ℕ) (m : MonitorWorld) (turn : MonitorTurn)
    → length (turned program t m turn).world.threads ≡ length m.world.threads
turned_count program t m idle = refl
turned_count program t m plain = (step_turned program m.world t).count
turned_count program t m raises_null = as_many program (raising thrown.NullPointerException) m.world t
turned_count program t m (takes lock) = as_many program dropping m.world t
turned_count program t m (gives lock) = as_many program dropping m.world t
turned_count program t m (calls_locked method) =
    let called = turn_by program (calling program) m.world t in
    called_count program t method m called (as_many program (calling program) m.world t) (nat_lt (depth program m.world t) (depth program called t))
    (is_one_too_many m.held (access t (of_class method.class) m.held))

moved_count : (program : Program) (t : ℕ) (m : MonitorWorld) (turn : MonitorTurn)
    → length (after_release program t (turned program t m turn)).world.threads ≡ length m.world.threads
moved_count program t m turn = by (is_stuck (turned program t m turn).world t)
  where
    by : (z : Bool) → length (released program t (turned program t m turn) z).world.threads ≡ length m.world.threads
    by true = turned_count program t m turn
    by false = turned_count program t m turn

-- a turn leaves as many threads as there were
pub monitor_step_count : (program : Program) (m : MonitorWorld) (t : ℕ) → length (monitor_step program m t).world.threads ≡ length m.world.threads
unfolding monitor_step
monitor_step_count program m t = by (turn_of program m t)
  where
    by : (turn : MonitorTurn) → length (step_as program t m turn).world.threads ≡ length m.world.threads
    by idle = refl
    by plain = moved_count program t m plain
    by raises_null = moved_count program t m raises_null
    by (takes lock) = moved_count program t m (takes lock)
    by (gives lock) = moved_count program t m (gives lock)
    by (calls_locked method) = moved_count program t m (calls_locked method)

-- ---- depths

-- how deep the frames of a thread may be, by the thread alone
abbrev deepest_in : Program → Option Thread → ℕ
deepest_in program o = deepest (is_stuck_thread o) (depth_in (option_and_then (standing_of program) o))

frames_stay : (program : Program) (w next : World) (k : ℕ) (frames : List SynchronizedFrame) → slice_get next.threads k ≡ slice_get w.threads k
    → AreFramesOf program w k frames → AreFramesOf program next k frames
frames_stay program w next k frames same are = subst (λ o. AreBelow (suc (deepest_in program o)) frames) (sym same) are

-- a thread of a world that fits has 128 frames at most
pub depth_few : (program : Program) (w : World) (t : ℕ) → FitsWorld program w → depth program w t ≤ most_frames
depth_few program w t fits = by (slice_get w.threads t) refl
  where
    of_thread : (thread : Thread) → FitsThread program w.shared.heap thread → depth_in (standing_of program thread) ≤ most_frames
    of_thread (running f waiting) r = r.few
    of_thread (returned v) r = omega arith
    of_thread (threw c) r = omega arith
    of_thread (stuck method place) r = omega arith

    by : (o : Option Thread) → slice_get w.threads t ≡ o → depth_in (option_and_then (standing_of program) o) ≤ most_frames
    by None e = omega arith
    by (Some thread) e = of_thread thread (all_at (FitsThread program w.shared.heap) w.threads t thread fits.threads e)

deepest_few : (program : Program) (w : World) (t : ℕ) → FitsWorld program w → deepest (is_stuck w t) (depth program w t) ≤ most_frames
deepest_few program w t fits = by (is_stuck w t)
  where
    by : (z : Bool) → deepest z (depth program w t) ≤ most_frames
    by true = le_refl most_frames
    by false = depth_few program w t fits

-- ---- what a turn leaves, before frames that are left give their locks back

module _ (program : Program) (m : MonitorWorld) (t : ℕ) (within : t < length m.world.threads) (fits : FitsWorld program m.world)
    (kept : KeepsLocks program m) where
  pub its_frames : AreBelow (suc most_frames) (frames_of m t)
  its_frames =
      let few = deepest_few program m.world t fits in
      below_higher (suc (deepest (is_stuck m.world t) (depth program m.world t))) (suc most_frames) (omega (arith, few)) (frames_of m t) (kept.below t)

  -- the world alone changes
  in_next : (next : World) → IsTurned m.world t next → KeepsLocksBut program t (in_world m next)
  in_next next is = record {
    locks = subst (λ n. AreLocks n m.held) (sym is.count) kept.locks;
    threads = kept.threads ∙ sym is.count;
    others = λ k e. frames_stay program m.world next k (frames_of m k) (is.others k e) (kept.below k);
    few = its_frames;
    counted = kept.counted;
  }

  -- the lock of an object is taken or given back
  with_locks : (next : World) (held : List Held) → IsTurned m.world t next → AreLocks (length m.world.threads) held
      → ((k class : ℕ) → access k (of_class class) held ≡ access k (of_class class) m.held)
      → KeepsLocksBut program t (record m { world = next; held = held })
  with_locks next held is are same = record {
    locks = subst (λ n. AreLocks n held) (sym is.count) are;
    threads = kept.threads ∙ sym is.count;
    others = λ k e. frames_stay program m.world next k (frames_of m k) (is.others k e) (kept.below k);
    few = its_frames;
    counted = λ k class. ap times_taken (same k class) ∙ kept.counted k class;
  }

  taken_object : (next : World) (object : ℕ) → IsTurned m.world t next → MayTake (length m.held) (access t (of_object object) m.held)
      → KeepsLocksBut program t (record m { world = next; held = taken_by t (of_object object) m.held })
  taken_object next object is may =
      with_locks next (taken_by t (of_object object) m.held) is (taken_locks (length m.world.threads) t (of_object object) m.held within kept.locks may)
      (λ k class. taken_elsewhere t (of_object object) m.held k (of_class class) refl)

  given_object : (next : World) (object : ℕ) → IsTurned m.world t next
      → KeepsLocksBut program t (record m { world = next; held = given_by t (of_object object) m.held })
  given_object next object is =
      with_locks next (given_by t (of_object object) m.held) is (given_locks (length m.world.threads) t (of_object object) m.held kept.locks)
      (λ k class. given_elsewhere t (of_object object) m.held k (of_class class) refl)

  -- ---- a frame of a synchronized method

  -- its class's lock may be taken, unless it would be one too many
  pub may_take : (class : ℕ) → (access t (of_class class) m.held ≡ another's → ⊥) → is_one_too_many m.held (access t (of_class class) m.held) ≡ false
      → MayTake (length m.held) (access t (of_class class) m.held)
  may_take class own room = by (access t (of_class class) m.held) refl own room
    where
      not_full : (z : Bool) → nat_lt (length m.held) 4096 ≡ z → not z ≡ false → length m.held < 4096
      not_full true e never = ltb-true (length m.held) 4096 e
      not_full false e never = absurd (cc)

      by : (a : Access) → access t (of_class class) m.held ≡ a → (a ≡ another's → ⊥) → is_one_too_many m.held a ≡ false → MayTake (length m.held) a
      by free e own room = not_full (nat_lt (length m.held) 4096) refl room
      by (its_own n) e own room =
          let count : n ≡ frames_in class (frames_of m t) = sym (ap times_taken e) ∙ kept.counted t class in
          let some = frames_in_few class (frames_of m t) in
          let few = below_few (suc most_frames) (frames_of m t) (omega arith) its_frames in
          omega (arith, count, some, few)
      by another's e own room = absurd (own refl)

  module _ (called : World) (is : IsTurned m.world t called) (called_fits : FitsWorld program called) (method : Entry)
      (own : access t (of_class method.class) m.held ≡ another's → ⊥) (deeper : nat_lt (depth program m.world t) (depth program called t) ≡ true)
      (room : is_one_too_many m.held (access t (of_class method.class) m.held) ≡ false) where
    abbrev new : SynchronizedFrame
    new = record { depth = depth program called t; class = method.class }

    abbrev held : List Held
    held = taken_by t (of_class method.class) m.held

    more : depth program m.world t < depth program called t
    more = ltb-true (depth program m.world t) (depth program called t) deeper

    -- a thread that isn't stuck has no frame below which it stands
    pub new_frames : is_stuck m.world t ≡ false → AreBelow (suc most_frames) (new ∷ frames_of m t)
    new_frames runs =
        let few = depth_few program called t called_fits in
        let own_frames : AreBelow (suc (depth program m.world t)) (frames_of m t) =
        subst (λ z. AreBelow (suc (deepest z (depth program m.world t))) (frames_of m t)) runs (kept.below t) in (
          omega (arith, more),
          omega (arith, few),
          below_higher (suc (depth program m.world t)) (depth program called t) (omega (arith, more)) (frames_of m t) own_frames,
        )

    in_list : t < length m.frames
    in_list = let same = kept.threads in omega (arith, within, same)

    frames_here : frames_of (with_frame program t method m called) t ≡ new ∷ frames_of m t
    frames_here = get_or-set_same m.frames t (new ∷ frames_of m t) [] in_list

    frames_there : (k : ℕ) → nat_eq t k ≡ false → frames_of (with_frame program t method m called) k ≡ frames_of m k
    frames_there k e = get_or-set_other m.frames t k (new ∷ frames_of m t) [] (differ t k e)

    counted_here : AreCounted t held (new ∷ frames_of m t)
    counted_here class = by (nat_eq method.class class) refl
      where
        by : (z : Bool) → nat_eq method.class class ≡ z → times_taken (access t (of_class class) held) ≡ frames_in class (new ∷ frames_of m t)
        by true e =
            subst (λ c. times_taken (access t (of_class c) held) ≡ frames_in c (new ∷ frames_of m t)) (eqb-true method.class class e)
            (ap times_taken (taken_own t (of_class method.class) m.held own) ∙ ap suc (kept.counted t method.class)
            ∙ sym (frames_in_first method.class new (frames_of m t) true (eq-eqb method.class method.class refl)))
        by false e =
            ap times_taken (taken_elsewhere t (of_class method.class) m.held t (of_class class) (other_way method.class class e))
            ∙ kept.counted t class ∙ sym (frames_in_first class new (frames_of m t) false e)

    counted_there : (k class : ℕ) → nat_eq t k ≡ false → times_taken (access k (of_class class) held) ≡ frames_in class (frames_of m k)
    counted_there k class e = by (nat_eq method.class class) refl
      where
        by : (z : Bool) → nat_eq method.class class ≡ z → times_taken (access k (of_class class) held) ≡ frames_in class (frames_of m k)
        by true q =
            subst (λ c. times_taken (access k (of_class c) held) ≡ frames_in c (frames_of m k)) (eqb-true method.class class q)
            (taken_others t (of_class method.class) m.held k e ∙ kept.counted k method.class)
        by false q =
            ap times_taken (taken_elsewhere t (of_class method.class) m.held k (of_class class) (other_way method.class class q)) ∙ kept.counted k class

    framed : is_stuck m.world t ≡ false → KeepsLocksBut program t (with_frame program t method m called)
    framed runs = record {
      locks = subst (λ n. AreLocks n held) (sym is.count)
          (taken_locks (length m.world.threads) t (of_class method.class) m.held within kept.locks (may_take method.class own room));
      threads = length-set m.frames t (new ∷ frames_of m t) ∙ kept.threads ∙ sym is.count;
      others = λ k e. subst (AreFramesOf program called k) (sym (frames_there k e))
          (frames_stay program m.world called k (frames_of m k) (is.others k e) (kept.below k));
      few = subst (AreBelow (suc most_frames)) (sym frames_here) (new_frames runs);
      counted = λ k class. count k class;
    }
      where
        count : (k class : ℕ) → times_taken (access k (of_class class) held) ≡ frames_in class (frames_of (with_frame program t method m called) k)
        count k class = by (nat_eq t k) refl
          where
            by : (z : Bool) → nat_eq t k ≡ z
                → times_taken (access k (of_class class) held) ≡ frames_in class (frames_of (with_frame program t method m called) k)
            by true e =
                subst (λ j. times_taken (access j (of_class class) held) ≡ frames_in class (frames_of (with_frame program t method m called) j))
                (eqb-true t k e)
                (counted_here class ∙ sym (ap (frames_in class) frames_here))
            by false e = counted_there k class e ∙ sym (ap (frames_in class) (frames_there k e))

-- ---- turns that aren't idle

some_none : {X : Type 0} (x : X) → None ≡ Some x → ⊥
some_none x e = cc

-- a thread that is about to call a method runs
pub not_stuck : (program : Program) (w : World) (t : ℕ) (method : Entry) → callee program w t ≡ Some method → is_stuck w t ≡ false
not_stuck program w t method e = by (slice_get w.threads t) e
  where
    by : (o : Option Thread) → option_and_then (callee_of_thread program) o ≡ Some method → is_stuck_thread o ≡ false
    by None e = refl
    by (Some (running f waiting)) e = refl
    by (Some (returned v)) e = refl
    by (Some (threw c)) e = refl
    by (Some (stuck at place)) e = absurd (some_none method e)

-- the world fits, and the locks are kept but for those of frames that are left
pub record IsKept (program : Program) (t : ℕ) (m n : MonitorWorld) : Type 0 where
  pub fits : FitsWorld program n.world
  pub locks : KeepsLocksBut program t n
  pub count : length n.world.threads ≡ length m.world.threads

module _ (program : Program) (p : IsProgram program) (m : MonitorWorld) (t : ℕ) (within : t < length m.world.threads) (fits : FitsWorld program m.world)
    (kept : KeepsLocks program m) where
  plain_kept : IsKept program t m (in_world m (step program m.world t))
  plain_kept = record {
    fits = step_fits program m.world t p fits;
    locks = in_next program m t within fits kept (step program m.world t) (step_turned program m.world t);
    count = (step_turned program m.world t).count;
  }

  null_kept : IsKept program t m (in_world m (turn_by program (raising thrown.NullPointerException) m.world t))
  null_kept =
      let is = by_turned program (raising thrown.NullPointerException) m.world t in record {
        fits = raising_fits program p m.world t fits thrown.NullPointerException;
        locks = in_next program m t within fits kept (turn_by program (raising thrown.NullPointerException) m.world t) is;
        count = is.count;
      }

  dropped : (object : ℕ) → AtObject (monitor_at program m.world t) (top_in m.world t) object → FitsWorld program (turn_by program dropping m.world t)
  dropped object at = dropping_fits program p m.world t fits at.insn at.at

  takes_kept : (lock : Lock) → turn_of program m t ≡ takes lock
      → IsKept program t m (record m { world = turn_by program dropping m.world t; held = taken_by t lock m.held })
  takes_kept lock e =
      let known = takes_object t (stands program m.world t) (monitor_at program m.world t) (top_in m.world t) (callee program m.world t) m.held lock e in
      let is = by_turned program dropping m.world t in
      let may = subst (λ l. MayTake (length m.held) (access t l m.held)) known.2.is known.2.may in record {
        fits = dropped known.0 known.1;
        locks = subst (λ l. KeepsLocksBut program t (record m { world = turn_by program dropping m.world t; held = taken_by t l m.held })) (sym known.2.is)
            (taken_object program m t within fits kept (turn_by program dropping m.world t) known.0 is may);
        count = is.count;
      }

  gives_kept : (lock : Lock) → turn_of program m t ≡ gives lock
      → IsKept program t m (record m { world = turn_by program dropping m.world t; held = given_by t lock m.held })
  gives_kept lock e =
      let known = gives_object t (stands program m.world t) (monitor_at program m.world t) (top_in m.world t) (callee program m.world t) m.held lock e in
      let is = by_turned program dropping m.world t in record {
        fits = dropped known.0 known.1;
        locks = subst (λ l. KeepsLocksBut program t (record m { world = turn_by program dropping m.world t; held = given_by t l m.held })) (sym known.2.is)
            (given_object program m t within fits kept (turn_by program dropping m.world t) known.0 is);
        count = is.count;
      }

  calls_kept : (method : Entry) → turn_of program m t ≡ calls_locked method
      → IsKept program t m (called_to program t method m (turn_by program (calling program) m.world t))
  calls_kept method e =
      by (nat_lt (depth program m.world t) (depth program called t)) refl (is_one_too_many m.held (access t (of_class method.class) m.held)) refl
    where
      called : World
      called = turn_by program (calling program) m.world t

      known : CallsFree t (callee program m.world t) m.held method
      known = calls_free t (stands program m.world t) (monitor_at program m.world t) (top_in m.world t) (callee program m.world t) m.held method e

      is : IsTurned m.world t called
      is = by_turned program (calling program) m.world t

      called_fits : FitsWorld program called
      called_fits = calling_fits program p m.world t fits method known.is

      by : (x : Bool) → nat_lt (depth program m.world t) (depth program called t) ≡ x
          → (y : Bool) → is_one_too_many m.held (access t (of_class method.class) m.held) ≡ y → IsKept program t m (called_as program t method m called x y)
      by false deeper y room = record { fits = called_fits; locks = in_next program m t within fits kept called is; count = is.count }
      by true deeper true room = plain_kept
      by true deeper false room = record {
        fits = called_fits;
        locks = framed program m t within fits kept called is called_fits method known.may deeper room (not_stuck program m.world t method known.is);
        count = is.count;
      }

  pub turned_kept : (turn : MonitorTurn) → turn_of program m t ≡ turn → (turn ≡ idle → ⊥) → IsKept program t m (turned program t m turn)
  turned_kept idle e never = absurd (never refl)
  turned_kept plain e never = plain_kept
  turned_kept raises_null e never = null_kept
  turned_kept (takes lock) e never = takes_kept lock e
  turned_kept (gives lock) e never = gives_kept lock e
  turned_kept (calls_locked method) e never = calls_kept method e

-- ---- frames that are left give their locks back

module _ (program : Program) (t : ℕ) (n : MonitorWorld) (within : t < length n.world.threads) (kept : KeepsLocksBut program t n) where
  stuck_keeps : is_stuck n.world t ≡ true → KeepsLocks program n
  stuck_keeps is = record { locks = kept.locks; threads = kept.threads; below = below; counted = kept.counted }
    where
      below : (k : ℕ) → AreFramesOf program n.world k (frames_of n k)
      below k = by (nat_eq t k) refl
        where
          by : (z : Bool) → nat_eq t k ≡ z → AreFramesOf program n.world k (frames_of n k)
          by true e =
              subst (λ j. AreFramesOf program n.world j (frames_of n j)) (eqb-true t k e)
              (subst (λ z. AreBelow (suc (deepest z (depth program n.world t))) (frames_of n t)) (sym is) kept.few)
          by false e = kept.others k e

  abbrev left : List SynchronizedFrame
  left = frames_left (depth program n.world t) (frames_of n t)

  in_lists : t < length n.frames
  in_lists = let same = kept.threads in omega (arith, within, same)

  left_here : slice_index_or (slice_set n.frames t left) t [] ≡ left
  left_here = get_or-set_same n.frames t left [] in_lists

  left_there : (k : ℕ) → nat_eq t k ≡ false → slice_index_or (slice_set n.frames t left) k [] ≡ frames_of n k
  left_there k e = get_or-set_other n.frames t k left [] (differ t k e)

  runs_keep : is_stuck n.world t ≡ false → KeepsLocks program (released program t n false)
  runs_keep is = record {
    locks = rest.locks;
    threads = length-set n.frames t left ∙ kept.threads;
    below = below;
    counted = λ k class. count k class;
  }
    where
      rest : Releases (length n.world.threads) t n.held (held_left t (depth program n.world t) (frames_of n t) n.held) left
      rest = releases (length n.world.threads) t (depth program n.world t) (suc most_frames) (frames_of n t) n.held kept.few kept.locks (kept.counted t)

      below : (k : ℕ) → AreFramesOf program n.world k (slice_index_or (slice_set n.frames t left) k [])
      below k = by (nat_eq t k) refl
        where
          by : (z : Bool) → nat_eq t k ≡ z → AreFramesOf program n.world k (slice_index_or (slice_set n.frames t left) k [])
          by true e =
              subst (λ j. AreFramesOf program n.world j (slice_index_or (slice_set n.frames t left) j [])) (eqb-true t k e)
              (subst (AreFramesOf program n.world t) (sym left_here)
              (subst (λ z. AreBelow (suc (deepest z (depth program n.world t))) left) (sym is)
              (left_below (depth program n.world t) (suc most_frames) (frames_of n t) kept.few)))
          by false e = subst (AreFramesOf program n.world k) (sym (left_there k e)) (kept.others k e)

      count : (k class : ℕ) → times_taken (access k (of_class class) (held_left t (depth program n.world t) (frames_of n t) n.held))
          ≡ frames_in class (slice_index_or (slice_set n.frames t left) k [])
      count k class = by (nat_eq t k) refl
        where
          by : (z : Bool) → nat_eq t k ≡ z → times_taken (access k (of_class class) (held_left t (depth program n.world t) (frames_of n t) n.held))
              ≡ frames_in class (slice_index_or (slice_set n.frames t left) k [])
          by true e =
              subst (λ j. times_taken (access j (of_class class) (held_left t (depth program n.world t) (frames_of n t) n.held))
              ≡ frames_in class (slice_index_or (slice_set n.frames t left) j [])) (eqb-true t k e)
              (rest.own class ∙ sym (ap (frames_in class) left_here))
          by false e = rest.others k class e ∙ kept.counted k class ∙ sym (ap (frames_in class) (left_there k e))

  pub release_keeps : KeepsLocks program (after_release program t n)
  release_keeps = by (is_stuck n.world t) refl
    where
      by : (z : Bool) → is_stuck n.world t ≡ z → KeepsLocks program (released program t n z)
      by true e = stuck_keeps e
      by false e = runs_keep e

-- ---- each turn

pub record IsKeptWhole (program : Program) (m : MonitorWorld) : Type 0 where
  pub fits : FitsWorld program m.world
  pub locks : KeepsLocks program m

pub step_kept : (program : Program) (m : MonitorWorld) (t : ℕ) → IsProgram program → t < length m.world.threads → IsKeptWhole program m
    → IsKeptWhole program (monitor_step program m t)
unfolding monitor_step
step_kept program m t p within kept = by (turn_of program m t) refl
  where
    moved : (turn : MonitorTurn) → turn_of program m t ≡ turn → (turn ≡ idle → ⊥) → IsKeptWhole program (after_release program t (turned program t m turn))
    moved turn e never =
        let next = turned_kept program p m t within kept.fits kept.locks turn e never in
        let there : t < length (turned program t m turn).world.threads = let same = next.count in omega (arith, within, same) in record {
          fits = world_kept (is_stuck (turned program t m turn).world t) next.fits;
          locks = release_keeps program t (turned program t m turn) there next.locks;
        }
      where
        world_kept : (z : Bool) → FitsWorld program (turned program t m turn).world
            → FitsWorld program (released program t (turned program t m turn) z).world
        world_kept true f = f
        world_kept false f = f

    by : (turn : MonitorTurn) → turn_of program m t ≡ turn → IsKeptWhole program (step_as program t m turn)
    by idle e = kept
    by plain e = moved plain e (λ never. cc)
    by raises_null e = moved raises_null e (λ never. cc)
    by (takes lock) e = moved (takes lock) e (λ never. cc)
    by (gives lock) e = moved (gives lock) e (λ never. cc)
    by (calls_locked method) e = moved (calls_locked method) e (λ never. cc)
