-- A kept turn in both worlds: they stand beside each other again, and the same locks are held.
use Rattle.std.proofs.Common.{◌≡◌, ℕ, Bool, true, false, List, [], ◌∷◌, Option, Some, None, nat_lt, refl, sym, ap, ap₂, ◌∙◌, subst, subst₂, if◌then◌else◌}
use Rattle.std.specs.Prelude.{slice_set, slice_index_or}
use Rattle.jc_programs.specs.declared.program.Program.{Program}
use Rattle.jc_programs.specs.declared.run_end.Entry.{Entry}
use Rattle.jc_programs.specs.declared.run_end.Thrown.TheVariants as thrown
use Rattle.jc_emit.specs.Marks.{Marks}
use Rattle.jc_machine_model.specs.World.{World}
use Rattle.jc_machine_model.specs.Step.{step}
use Rattle.jc_machine_model.specs.Standings.{TopValue, no_value, a_null, an_object, another, top_of}
use Rattle.jc_machine_model.specs.Locked.{MonitorInsn, enters, exits, monitor_of_frame, callee_of_frame, turn_by, dropping, raising, calling}
use Rattle.jc_monitor_model.specs.Locks.{Lock, of_object, of_class, most_times, Access, free, its_own, another's, access, is_full, taken_by, given_by}
use Rattle.jc_monitor_model.specs.SynchronizedFrames.{SynchronizedFrame, frames_left, held_left}
use Rattle.jc_monitor_model.specs.MonitorWorld.{MonitorWorld, frames_of}
use Rattle.jc_monitor_model.specs.MonitorTurns.{MonitorTurn, idle, plain, raises_null, takes, gives, calls_locked, turn_to_enter, turn_to_exit, turn_on_lock, turn_on_top, turn_to_call, turn_on_call, turn_on, turn_of}
use Rattle.jc_monitor_model.specs.MonitorStep.{depth, is_stuck, is_one_too_many, called_as, turned, released, after_release, step_as, monitor_step}
use Rattle.jc_twin_simulation.specs.Kept.{is_kept}
use Rattle.jc_twin_simulation.specs.Sides.{Side, AreSides, AreMarksOf}
use Rattle.jc_twin_simulation.specs.Beside.{Beside}
use Rattle.jc_monitor_laws.proofs.DepthLaws.{depth_same, stuck_same}
use Rattle.jc_monitor_laws.proofs.ImageLaws.{drops_same, calling_same}
use Rattle.jc_monitor_laws.proofs.SameTurnLaws.{StandsAtImage, step_beside, turns_beside, kind_here, kind_there}

module _ (p p' : Program) (sides : Entry → Side) (marks : Entry → Marks) (are : AreSides p p' sides) (told : AreMarksOf p p' marks sides) where
  -- the worlds stand beside each other, with the same locks held, and the same frames of synchronized methods
  pub record MonitorBeside (m m' : MonitorWorld) : Type 0 where
    pub worlds : Beside p p' sides m.world m'.world
    pub held : m'.held ≡ m.held
    pub frames : m'.frames ≡ m.frames

  -- ---- a release

  module _ (n n' : MonitorWorld) (h : MonitorBeside n n') (t : ℕ) where
    abbrev deep : ℕ
    deep = depth p n.world t

    frames_same : frames_of n' t ≡ frames_of n t
    frames_same = ap (λ (frames : List (List SynchronizedFrame)). slice_index_or frames t []) h.frames

    left_same : frames_left (depth p' n'.world t) (frames_of n' t) ≡ frames_left deep (frames_of n t)
    left_same = ap₂ frames_left (depth_same p p' sides marks are told n.world n'.world h.worlds t) frames_same

    released_beside : (b : Bool) → MonitorBeside (released p t n b) (released p' t n' b)
    released_beside true = h
    released_beside false = record {
      worlds = h.worlds;
      held = ap (λ d. held_left t d (frames_of n' t) n'.held) (depth_same p p' sides marks are told n.world n'.world h.worlds t)
          ∙ ap₂ (held_left t deep) frames_same h.held;
      frames = ap₂ (λ all frames. slice_set all t frames) h.frames left_same;
    }

    after_beside : MonitorBeside (after_release p t n) (after_release p' t n')
    after_beside =
        subst (λ b. MonitorBeside (after_release p t n) (released p' t n' b))
        (sym (stuck_same p p' sides marks are told n.world n'.world h.worlds t))
        (released_beside (is_stuck n.world t))

  -- ---- the kinds of turns

  module _ (m m' : MonitorWorld) (h : MonitorBeside m m') (t : ℕ) (k : is_kept p' marks m'.world t ≡ true)
      (i : StandsAtImage p p' sides marks are told m.world m'.world t) where
    abbrev Turned : MonitorTurn → Type 0
    Turned turn = MonitorBeside (turned p t m turn) (turned p' t m' turn)

    its_step : Beside p p' sides (step p m.world t) (step p' m'.world t)
    its_step = step_beside p p' sides marks are told m.world m'.world h.worlds t k

    on_plain : Turned plain
    on_plain = record { worlds = its_step; held = h.held; frames = h.frames }

    on_null : Turned raises_null
    on_null = record {
      worlds = turns_beside p p' sides marks are told m.world m'.world h.worlds t i (raising thrown.NullPointerException)
          (raising thrown.NullPointerException) refl;
      held = h.held;
      frames = h.frames;
    }

    module _ (x : MonitorInsn) (e : monitor_of_frame p i.top ≡ Some x) where
      dropped_worlds : Beside p p' sides (turn_by p dropping m.world t) (turn_by p' dropping m'.world t)
      dropped_worlds =
          turns_beside p p' sides marks are told m.world m'.world h.worlds t i dropping dropping
          (drops_same p p' sides are i.top i.top' i.new i.early i.same m.world.shared m'.world.shared h.worlds.shared x e)

      on_takes : (lock : Lock) → Turned (takes lock)
      on_takes lock = record { worlds = dropped_worlds; held = ap (taken_by t lock) h.held; frames = h.frames }

      on_gives : (lock : Lock) → Turned (gives lock)
      on_gives lock = record { worlds = dropped_worlds; held = ap (given_by t lock) h.held; frames = h.frames }

      takes_if : (b : Bool) (lock : Lock) → Turned (if b then takes lock else plain)
      takes_if true lock = on_takes lock
      takes_if false lock = on_plain

      plain_if : (b : Bool) (lock : Lock) → Turned (if b then plain else takes lock)
      plain_if true lock = on_plain
      plain_if false lock = on_takes lock

      on_enter : (lock : Lock) (a : Access) → Turned (turn_to_enter lock m.held a)
      on_enter lock free = plain_if (is_full m.held) lock
      on_enter lock (its_own n) = takes_if (nat_lt n most_times) lock
      on_enter lock another's = h

      on_exit : (lock : Lock) (a : Access) → Turned (turn_to_exit lock a)
      on_exit lock (its_own n) = on_gives lock
      on_exit lock free = on_plain
      on_exit lock another's = on_plain

      on_lock : (y : MonitorInsn) (lock : Lock) → Turned (turn_on_lock t y lock m.held)
      on_lock enters lock = on_enter lock (access t lock m.held)
      on_lock exits lock = on_exit lock (access t lock m.held)

      on_top : (top : TopValue) → Turned (turn_on_top t x top m.held)
      on_top a_null = on_null
      on_top (an_object number) = on_lock x (of_object number)
      on_top no_value = on_plain
      on_top another = on_plain

    module _ (callee : Entry) (e : callee_of_frame p i.top ≡ Some callee) where
      abbrev called : World
      called = turn_by p (calling p) m.world t

      abbrev called' : World
      called' = turn_by p' (calling p') m'.world t

      called_worlds : Beside p p' sides called called'
      called_worlds =
          turns_beside p p' sides marks are told m.world m'.world h.worlds t i (calling p) (calling p')
          (calling_same p p' sides are i.top i.top' i.new i.early i.same m.world.shared m'.world.shared h.worlds.shared callee e)

      -- the frame of the method, where one was made
      abbrev with_depth : ℕ → SynchronizedFrame
      with_depth d = record { depth = d; class = callee.class }

      called_by : (deeper too_many : Bool) → MonitorBeside (called_as p t callee m called deeper too_many) (called_as p' t callee m' called' deeper too_many)
      called_by false too_many = record { worlds = called_worlds; held = h.held; frames = h.frames }
      called_by true true = record { worlds = its_step; held = h.held; frames = h.frames }
      called_by true false = record {
        worlds = called_worlds;
        held = ap (taken_by t (of_class callee.class)) h.held;
        frames = ap (λ d. slice_set m'.frames t (with_depth d ∷ frames_of m' t)) (depth_same p p' sides marks are told called called' called_worlds t)
            ∙ ap (λ (all : List (List SynchronizedFrame)). slice_set all t (with_depth (depth p called t) ∷ slice_index_or all t [])) h.frames;
      }

      on_call : Turned (calls_locked callee)
      on_call =
          let deeper = nat_lt (depth p m.world t) (depth p called t) in
          let too_many = is_one_too_many m.held (access t (of_class callee.class) m.held) in
          let deeper_same : nat_lt (depth p' m'.world t) (depth p' called' t) ≡ deeper =
          ap₂ nat_lt (depth_same p p' sides marks are told m.world m'.world h.worlds t)
          (depth_same p p' sides marks are told called called' called_worlds t) in
          let many_same : is_one_too_many m'.held (access t (of_class callee.class) m'.held) ≡ too_many =
          ap (λ held. is_one_too_many held (access t (of_class callee.class) held)) h.held in
          subst₂ (λ a b. MonitorBeside (called_as p t callee m called deeper too_many) (called_as p' t callee m' called' a b))
          (sym deeper_same) (sym many_same) (called_by deeper too_many)

      on_access : (a : Access) → Turned (turn_to_call callee a)
      on_access free = on_call
      on_access (its_own n) = on_call
      on_access another's = h

    on_callee : (c : Option Entry) → callee_of_frame p i.top ≡ c → Turned (turn_on_call t c m.held)
    on_callee None e = on_plain
    on_callee (Some callee) e = on_access callee e (access t (of_class callee.class) m.held)

    on_insn : (x : Option MonitorInsn) → monitor_of_frame p i.top ≡ x → (top : TopValue) → Turned (turn_on t x top (callee_of_frame p i.top) m.held)
    on_insn (Some x) e top = on_top x e top
    on_insn None e top = on_callee (callee_of_frame p i.top) refl

    -- ---- the turn

    stepped : (turn : MonitorTurn) → Turned turn → MonitorBeside (step_as p t m turn) (step_as p' t m' turn)
    stepped idle g = g
    stepped plain g = after_beside (turned p t m plain) (turned p' t m' plain) g t
    stepped raises_null g = after_beside (turned p t m raises_null) (turned p' t m' raises_null) g t
    stepped (takes lock) g = after_beside (turned p t m (takes lock)) (turned p' t m' (takes lock)) g t
    stepped (gives lock) g = after_beside (turned p t m (gives lock)) (turned p' t m' (gives lock)) g t
    stepped (calls_locked callee) g = after_beside (turned p t m (calls_locked callee)) (turned p' t m' (calls_locked callee)) g t

    abbrev its_kind : MonitorTurn
    its_kind = turn_on t (monitor_of_frame p i.top) (top_of m.world.shared.heap (i.top).stack) (callee_of_frame p i.top) m.held

    old_kind : turn_of p m t ≡ its_kind
    old_kind = kind_here p p' sides marks are told m.world m'.world h.worlds t i m.held

    new_kind : turn_of p' m' t ≡ its_kind
    new_kind = ap (λ held. turn_of p' (record m' { held = held }) t) h.held ∙ kind_there p p' sides marks are told m.world m'.world h.worlds t i m.held

    pub kinds_same : turn_of p m t ≡ turn_of p' m' t
    kinds_same = old_kind ∙ sym new_kind

    pub kept_beside : MonitorBeside (monitor_step p m t) (monitor_step p' m' t)
    unfolding monitor_step
    kept_beside =
        subst₂ (λ a b. MonitorBeside (step_as p t m a) (step_as p' t m' b)) (sym old_kind) (sym new_kind)
        (stepped its_kind (on_insn (monitor_of_frame p i.top) refl (top_of m.world.shared.heap (i.top).stack)))
