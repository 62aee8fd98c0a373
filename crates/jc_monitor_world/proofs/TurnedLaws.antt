-- What each kind of turn leaves of a world with its locks.
use Rattle.std.proofs.Common.{◌≡◌, ◌≢◌, ℕ, ◌<◌, ◌≤◌, Bool, true, false, List, [], ◌∷◌, length, Option, Some, None, nat_lt, refl, sym, ap, ap₂, ◌∙◌, subst, arith}
use Rattle.std.specs.Prelude.{slice_get, option_and_then, find}
use Rattle.std.proofs.lemmas.Bool.{lt-ltb, le-ltb}
use Rattle.std.proofs.lemmas.Option.{same_Some}
use Rattle.jc_bytes.proofs.OptionLaws.{none_some}
use Rattle.jc_programs.specs.declared.program.Program.{Program}
use Rattle.jc_programs.specs.declared.run_end.Entry.{Entry}
use Rattle.jc_machine_model.specs.Programs.{IsProgram}
use Rattle.jc_machine_model.specs.World.{Frame, Thread, running, returned, threw, stuck, World}
use Rattle.jc_machine_model.specs.Step.{located, most_frames, counted_frames, step}
use Rattle.jc_machine_model.specs.Fits.{FitsWorld}
use Rattle.jc_machine_model.specs.Standings.{Standing, standing_of, stands, TopValue, no_value, an_object, top_in}
use Rattle.jc_machine_model.specs.Locked.{turn_by, MonitorInsn, monitor_in, monitor_of_thread, monitor_at, callee, calling}
use Rattle.jc_machine_laws.proofs.LockedTurnLaws.{calling_fits}
use Rattle.jc_monitor_model.specs.Locks.{Lock, of_class, Held, is_of_lock, its_own, access}
use Rattle.jc_monitor_model.specs.MonitorWorld.{MonitorWorld, frames_of, in_world}
use Rattle.jc_monitor_model.specs.MonitorTurns.{MonitorTurn, idle, plain, raises_null, takes, gives, calls_locked, turn_on, turn_if, turn_of}
use Rattle.jc_monitor_model.specs.MonitorStep.{depth, is_stuck, with_frame, is_one_too_many, called_as, called_to, turned, after_release, step_as, monitor_step}
use Rattle.jc_monitor_model.specs.KeptLocks.{MayTake, MayGive, AreLocks, KeepsLocksBut}
use Rattle.jc_monitor_model.proofs.AccessLaws.{holds}
use Rattle.jc_monitor_model.proofs.HeldLaws.{found_each}
use Rattle.jc_monitor_model.proofs.FrameLaws.{below_few}
use Rattle.jc_monitor_world.specs.declared.next_turn.MonitorTurn.{MonitorTurn as KeptTurn}
use Rattle.jc_monitor_world.specs.declared.next_turn.MonitorTurn.TheVariants as turns
use Rattle.jc_monitor_world.specs.Seen.{turn_seen}
use Rattle.jc_monitor_world.specs.Monitored.{Monitored, monitor_world_of, without_hits, FitsMonitored}
use Rattle.jc_monitor_world.proofs.TurnKindLaws.{AtObject, takes_object, gives_object, CallsFree, calls_free}
use Rattle.jc_monitor_world.proofs.KeptLaws.{depth_few, its_frames, may_take, not_stuck, new_frames, by_turned, turned_kept}
use Rattle.jc_monitor_world.proofs.StuckCallLaws.{call_is_step}
use Rattle.jc_monitor_world.proofs.MonitorHitLaws.{release_apart, release_hits}

-- ---- kinds of turns

-- only an idle turn is kept as one
pub seen_idle : (turn : KeptTurn) → turn_seen turn ≡ idle → turn ≡ turns.Idle
seen_idle turns.Idle e = refl
seen_idle turns.Plain e = absurd (cc)
seen_idle turns.RaisesNull e = absurd (cc)
seen_idle (turns.Takes lock) e = absurd (cc)
seen_idle (turns.Gives lock) e = absurd (cc)
seen_idle (turns.CallsLocked callee) e = absurd (cc)

-- a turn that isn't idle is of a thread that runs
pub runs_for : (s : Option Standing) (turn other : MonitorTurn) → turn_if s turn ≡ other → (other ≡ idle → ⊥) → s ≢ None
runs_for None turn other e never = λ q. never (sym e)
runs_for (Some s) turn other e never = λ q. absurd (none_some (sym q))

pub insn_there : (i : Option MonitorInsn) (top : TopValue) (object : ℕ) → AtObject i top object → i ≢ None
insn_there i top object at = λ q. absurd (none_some (sym q ∙ at.at))

pub operand_there : (i : Option MonitorInsn) (top : TopValue) (object : ℕ) → AtObject i top object → top ≢ no_value
operand_there i top object at = λ q. no_object (sym q ∙ at.operand)
  where
    no_object : no_value ≡ an_object object → ⊥
    no_object e = cc

-- the monitor instruction at which a thread stands
monitor_there : (program : Program) (o : Option Thread) (s : Standing) → option_and_then (standing_of program) o ≡ Some s
    → option_and_then (monitor_of_thread program) o ≡ monitor_in (located program s.method s.place)
monitor_there program None s e = absurd (none_some e)
monitor_there program (Some (running f waiting)) s e =
    ap (λ (x : Standing). monitor_in (located program x.method x.place)) (same_Some (standing_in_frame f waiting) s e)
  where
    standing_in_frame : Frame → List Frame → Standing
    standing_in_frame f waiting = record { method = f.method; place = f.place; depth = counted_frames program (f ∷ waiting) }
monitor_there program (Some (returned v)) s e = absurd (none_some e)
monitor_there program (Some (threw c)) s e = absurd (none_some e)
monitor_there program (Some (stuck method place)) s e = absurd (none_some e)

-- the turn of a thread that stands there
pub turn_is : (program : Program) (n : MonitorWorld) (t : ℕ) (s : Standing) → stands program n.world t ≡ Some s
    → turn_of program n t
    ≡ turn_on t (monitor_in (located program s.method s.place)) (top_in n.world t) (callee program n.world t) n.held
turn_is program n t s e =
    ap (λ o. turn_if o (turn_on t (monitor_at program n.world t) (top_in n.world t) (callee program n.world t) n.held)) e
    ∙ ap (λ i. turn_on t i (top_in n.world t) (callee program n.world t) n.held) (monitor_there program (slice_get n.world.threads t) s e)

-- the turn of a thread that doesn't run
pub turn_idle : (program : Program) (n : MonitorWorld) (t : ℕ) → None ≡ stands program n.world t → turn_of program n t ≡ idle
turn_idle program n t e =
    ap (λ o. turn_if o (turn_on t (monitor_at program n.world t) (top_in n.world t) (callee program n.world t) n.held)) (sym e)

-- an idle turn leaves all, and another one what it comes to, but for frames that are left
pub moves : (program : Program) (t : ℕ) (n : MonitorWorld) (turn : MonitorTurn) → (turn ≡ idle → ⊥)
    → step_as program t n turn ≡ after_release program t (turned program t n turn)
moves program t n idle never = absurd (never refl)
moves program t n plain never = refl
moves program t n raises_null never = refl
moves program t n (takes lock) never = refl
moves program t n (gives lock) never = refl
moves program t n (calls_locked method) never = refl

pub takes_moves : (lock : Lock) → takes lock ≡ idle → ⊥
takes_moves lock e = cc

pub gives_moves : (lock : Lock) → gives lock ≡ idle → ⊥
gives_moves lock e = cc

pub calls_moves : (method : Entry) → calls_locked method ≡ idle → ⊥
calls_moves method e = cc

pub plain_moves : plain ≡ idle → ⊥
plain_moves e = cc

pub null_moves : raises_null ≡ idle → ⊥
null_moves e = cc

-- a lock that a thread holds was taken
own_some : (threads t : ℕ) (lock : Lock) (held : List Held) (n : ℕ) → AreLocks threads held → access t lock held ≡ its_own n → MayGive (access t lock held)
own_some threads t lock held n are e =
    let it = holds t (find (is_of_lock lock) held) n e in
    let is = found_each threads (is_of_lock lock) held it.entry are.each it.is in
    subst MayGive (sym e) (let some = is.some in let count = it.count in omega (arith, some, count))

module _ (program : Program) (p : IsProgram program) (m : Monitored) (t : ℕ) (less : t < length m.machine.threads) (fits : FitsMonitored program m) where
  abbrev whole : MonitorWorld
  whole = monitor_world_of m

  -- ---- what is kept

  pub idle_kept : KeepsLocksBut program t whole
  idle_kept = record {
    locks = (fits.locks).locks;
    threads = (fits.locks).threads;
    others = λ k e. (fits.locks).below k;
    few = its_frames program whole t less (fits.machine).world fits.locks;
    counted = (fits.locks).counted;
  }

  pub turn_kept : (turn : MonitorTurn) → turn_of program whole t ≡ turn → (turn ≡ idle → ⊥) → KeepsLocksBut program t (turned program t whole turn)
  turn_kept turn e never = (turned_kept program p whole t less (fits.machine).world fits.locks turn e never).locks

  pub null_runs : turn_of program whole t ≡ raises_null → stands program whole.world t ≢ None
  null_runs e =
      runs_for (stands program whole.world t)
      (turn_on t (monitor_at program whole.world t) (top_in whole.world t) (callee program whole.world t) m.held) raises_null e null_moves

  -- ---- monitor instructions

  pub takes_at : (lock : Lock) → turn_of program whole t ≡ takes lock
      → (monitor_at program whole.world t ≢ None) × (top_in whole.world t ≢ no_value) × MayTake (length m.held) (access t lock m.held)
  takes_at lock e =
      let i = monitor_at program whole.world t in
      let top = top_in whole.world t in
      let it = takes_object t (stands program whole.world t) i top (callee program whole.world t) m.held lock e in
      (insn_there i top it.0 it.1, operand_there i top it.0 it.1, (it.2).may)

  pub gives_at : (lock : Lock) → turn_of program whole t ≡ gives lock
      → (monitor_at program whole.world t ≢ None) × (top_in whole.world t ≢ no_value) × MayGive (access t lock m.held)
  gives_at lock e =
      let i = monitor_at program whole.world t in
      let top = top_in whole.world t in
      let it = gives_object t (stands program whole.world t) i top (callee program whole.world t) m.held lock e in (
        insn_there i top it.0 it.1,
        operand_there i top it.0 it.1,
        own_some (length whole.world.threads) t lock m.held (it.2).count (fits.locks).locks (it.2).own,
      )

  -- ---- a synchronized method is called

  module _ (method : Entry) (e : turn_of program whole t ≡ calls_locked method) where
    abbrev called : World
    called = turn_by program (calling program) whole.world t

    known : CallsFree t (callee program whole.world t) m.held method
    known = calls_free t (stands program whole.world t) (monitor_at program whole.world t) (top_in whole.world t)
        (callee program whole.world t) m.held method e

    pub callee_there : callee program whole.world t ≢ None
    callee_there = λ q. absurd (none_some (sym q ∙ known.is))

    runs : is_stuck whole.world t ≡ false
    runs = not_stuck program whole.world t method known.is

    -- where there is room for a frame, and none for a lock, the thread is stuck
    pub call_without_lock : is_one_too_many m.held (access t (of_class method.class) m.held) ≡ true → depth program whole.world t < most_frames
        → called_to program t method whole called ≡ in_world whole (step program whole.world t)
    call_without_lock many few =
        ap (called_as program t method whole called (nat_lt (depth program whole.world t) (depth program called t))) many
        ∙ by (nat_lt (depth program whole.world t) (depth program called t)) refl
      where
        by : (z : Bool) → nat_lt (depth program whole.world t) (depth program called t) ≡ z
            → called_as program t method whole called z true ≡ in_world whole (step program whole.world t)
        by true q = refl
        by false q = ap (in_world whole) (call_is_step program whole.world t less method known.is few q)

    pub call_without_frame : depth program called t ≤ depth program whole.world t → called_to program t method whole called ≡ in_world whole called
    call_without_frame shallow =
        ap (λ z. called_as program t method whole called z (is_one_too_many m.held (access t (of_class method.class) m.held)))
        (le-ltb (depth program whole.world t) (depth program called t) shallow)

    module _ (deeper : depth program whole.world t < depth program called t)
        (full : is_one_too_many m.held (access t (of_class method.class) m.held) ≡ true → most_frames ≤ depth program whole.world t) where
      called_fits : FitsWorld program called
      called_fits = calling_fits program p whole.world t (fits.machine).world method known.is

      few : depth program called t ≤ most_frames
      few = depth_few program called t called_fits

      has_room : is_one_too_many m.held (access t (of_class method.class) m.held) ≡ false
      has_room = by (is_one_too_many m.held (access t (of_class method.class) m.held)) full
        where
          by : (z : Bool) → (z ≡ true → most_frames ≤ depth program whole.world t) → z ≡ false
          by false h = refl
          by true h = absurd (let many = h refl in let most = few in omega (arith, many, most, deeper))

      pub call_with_frame : called_to program t method whole called ≡ with_frame program t method whole called
      call_with_frame =
          ap₂ (λ z y. called_as program t method whole called z y) (lt-ltb (depth program whole.world t) (depth program called t) deeper) has_room

      pub lock_for_frame : MayTake (length m.held) (access t (of_class method.class) m.held)
      lock_for_frame = may_take program whole t less (fits.machine).world fits.locks method.class known.may has_room

      pub frame_fits : length (frames_of whole t) < 128
      frame_fits =
          let below = new_frames program whole t less (fits.machine).world fits.locks called (by_turned program (calling program) whole.world t) called_fits
          method known.may (lt-ltb (depth program whole.world t) (depth program called t) deeper) has_room runs in
          let some = below.0 in
          let most = few in
          let fewer = below_few (depth program called t) (frames_of whole t) some below.2 in
          omega (arith, most, fewer)

  -- ---- the step

  pub step_is : (turn : MonitorTurn) → turn_of program whole t ≡ turn → monitor_step program whole t ≡ step_as program t whole turn
  unfolding monitor_step
  step_is turn e = ap (step_as program t whole) e

  pub idle_world : turn_of program whole t ≡ idle → whole ≡ without_hits (monitor_step program whole t)
  idle_world e = sym (ap without_hits (step_is idle e))

  pub idle_hits : turn_of program whole t ≡ idle → [] ≡ (monitor_step program whole t).world.hits
  idle_hits e = sym (ap (λ (n : MonitorWorld). n.world.hits) (step_is idle e))

  -- frames that are left give their locks back behind the turn
  module _ (turn : MonitorTurn) (e : turn_of program whole t ≡ turn) (never : turn ≡ idle → ⊥) where
    moved : monitor_step program whole t ≡ after_release program t (turned program t whole turn)
    moved = step_is turn e ∙ moves program t whole turn never

    pub moved_world : after_release program t (without_hits (turned program t whole turn)) ≡ without_hits (monitor_step program whole t)
    moved_world = release_apart program t (turned program t whole turn) [] ∙ sym (ap without_hits moved)

    pub moved_hits : (turned program t whole turn).world.hits ≡ (monitor_step program whole t).world.hits
    moved_hits = sym (ap (λ (n : MonitorWorld). n.world.hits) moved ∙ release_hits program t (turned program t whole turn))
