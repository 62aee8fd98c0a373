-- Worlds of a program without probes: no value of theirs is a probe array, and frames that wait stand at calls.
use Rattle.std.proofs.Common.{◌≡◌, ℕ, Bool, true, false, List, [], ◌∷◌, ◌++◌, length, Option, Some, None, refl, sym, ap, ◌∙◌, subst, if◌then◌else◌}
use Rattle.std.specs.Prelude.{⊤, slice_get, ◌&&◌, bytes_eq}
use Rattle.std.specs.List.{AllByRecursion}
use Rattle.std.proofs.lemmas.Option.{none-some}
use Rattle.jc_bytes.proofs.BooleanLaws.{and_false}
use Rattle.jc_bytes.proofs.ListLaws.{all_at}
use Rattle.jc_methods.specs.Flow.{flow_of}
use Rattle.jc_methods.specs.ProbeMembers.{init_type}
use Rattle.jc_methods.specs.declared.insn.Flow.TheVariants as flows
use Rattle.jc_methods.specs.declared.body.Body.{Body}
use Rattle.jc_methods.specs.declared.body.What.{What}
use Rattle.jc_methods.specs.declared.body.What.TheVariants as whats
use Rattle.jc_methods.specs.declared.body.Handler.{Handler}
use Rattle.jc_programs.specs.declared.program.Program.{Program}
use Rattle.jc_programs.specs.declared.program.Linked.{Linked}
use Rattle.jc_programs.specs.declared.program.ProbeInit.{ProbeInit}
use Rattle.jc_programs.specs.declared.run_end.Entry.{Entry}
use Rattle.jc_programs.specs.declared.run_end.Thrown.{Thrown}
use Rattle.jc_programs.specs.declared.run_end.Thrown.TheVariants as thrown
use Rattle.jc_machine_model.specs.Values.{Value, object, probes}
use Rattle.jc_machine_model.specs.Heap.{throwable, has_room}
use Rattle.jc_machine_model.specs.World.{Frame, Thread, running, returned, threw, stuck, Shared, World}
use Rattle.jc_machine_model.specs.Methods.{is_init_name, declares_init}
use Rattle.jc_machine_model.specs.Profile.{Location, has_constant, init_of, given_by, given_in}
use Rattle.jc_machine_model.specs.Perform.{perform}
use Rattle.jc_machine_model.specs.Results.{Result, goes, hits, calls, leaves, raises, throws, gets_stuck}
use Rattle.jc_machine_model.specs.Step.{LocatedInsn, located, operation_at, result_of, handler_of, caught, unwound, Raised, out_of_memory, placed, overflows, new_frame, given_back, left, After, after, thrown_in, after_result, turn_of, step_of, step}
use Rattle.jc_machine_model.specs.Run.{run_from}
use Rattle.jc_twin_exact.proofs.ValueLaws.{HoldsOfOthers, InSlot, InStatics, set_each}
use Rattle.jc_twin_exact.proofs.ResultLaws.{InFrame}
use Rattle.jc_twin_exact.proofs.TurnedLaws.{Turned, turned, stands}

-- no probe array
abbrev pub IsOther : Value → Type 0
IsOther (probes class count) = ⊥
IsOther _ = ⊤

pub others : HoldsOfOthers IsOther
others = record { ints = λ x. tt; longs = λ x. tt; nulls = tt; objects = λ k. tt; errors = tt; streams = tt; texts = λ k. tt }

-- no method of the program is named `$jacocoInit`
abbrev pub HasNoInit : Program → Type 0
HasNoInit p =
    (m : Entry) (c : Linked) (b : Body) → slice_get p.classes m.class ≡ Some c → slice_get c.bodies m.method ≡ Some b
    → (is_init_name b.name ≡ false) × (declares_init c ≡ false)

-- without such a method a class gives nothing by a constant
given_here : (at : Location) (what : Option What) (init : ProbeInit) → declares_init at.linked ≡ false → given_in at what ≡ Some init → ⊥
given_here at (Some (whats.Computed name desc bootstrap)) init e h =
    none-some init
    (sym (ap (λ g. given_by g name desc bootstrap)
    (ap (λ (b : Bool). if b then at.linked.probes else None)
    (ap (λ d. has_constant at.linked && d) e ∙ and_false (has_constant at.linked)))) ∙ h)
given_here at _ init e h = absurd (none-some init h)

module _ (p : Program) where
  -- ---- frames

  -- it stands at a call
  pub record IsAtCall (f : Frame) : Type 0 where
    pub insn : LocatedInsn
    pub here : located p f.method f.place ≡ Some insn
    pub flow : flow_of insn.insn ≡ flows.GoesOn

  pub record IsGoodWait (f : Frame) : Type 0 where
    pub values : InFrame IsOther f
    pub call : IsAtCall f

  abbrev pub AreGoodWaits : List Frame → Type 0
  AreGoodWaits frames = AllByRecursion IsGoodWait frames

  abbrev pub IsGood : Thread → Type 0
  IsGood (running f waiting) = InFrame IsOther f × AreGoodWaits waiting
  IsGood _ = ⊤

  pub record IsGoodWorld (w : World) : Type 0 where
    pub statics : InStatics IsOther w.shared.statics
    pub threads : AllByRecursion IsGood w.threads

  -- ---- one turn

  pub record IsGoodAfter (s : Shared) (a : After) : Type 0 where
    pub thread : IsGood a.thread
    pub statics : InStatics IsOther a.shared.statics
    pub raised : s.raised ≡ true → a.shared.raised ≡ true

module _ (p : Program) (no_init : HasNoInit p) where
  none_fetched : (m : Entry) (q : ℕ) (i : LocatedInsn) → located p m q ≡ Some i → (init : ProbeInit) → init_of i.at ≡ Some init → IsOther (probes i.at.class init.count)
  none_fetched m q i e init h =
      let st = stands p m q i e in
      none-some init
      (sym (ap (λ (n : Bool). if n && bytes_eq st.body.desc init_type then st.class.probes else None) (no_init m st.class st.body st.class_is st.body_is).0)
      ∙ sym (ap init_of st.at_is) ∙ h)

  none_given : (m : Entry) (q : ℕ) (i : LocatedInsn) → located p m q ≡ Some i → (what : Option What) (init : ProbeInit) → given_in i.at what ≡ Some init
      → IsOther (probes i.at.class init.count)
  none_given m q i e what init h =
      let st = stands p m q i e in
      absurd (given_here i.at what init
      (ap (λ (l : Location). declares_init l.linked) st.at_is ∙ (no_init m st.class st.body st.class_is st.body_is).1) h)

  -- what a turn of the frame comes to
  pub turned_here : (s : Shared) (f : Frame) (i : LocatedInsn) → located p f.method f.place ≡ Some i → InFrame IsOther f → InStatics IsOther s.statics
      → Turned IsOther i.insn s f (result_of p s f)
  turned_here s f i e values statics =
      subst (Turned IsOther i.insn s f) (sym (ap (λ o. perform (operation_at p o) s f) e))
      (turned IsOther others p s f values statics i.at i.insn (none_fetched f.method f.place i e) (none_given f.method f.place i e))

  pub nowhere : (s : Shared) (f : Frame) → located p f.method f.place ≡ None → result_of p s f ≡ gets_stuck
  unfolding perform
  nowhere s f e = ap (λ o. perform (operation_at p o) s f) e

  -- a frame that waited goes on
  back_good : (v : Option Value) (f : Frame) → InSlot IsOther v → InFrame IsOther f → InFrame IsOther (given_back v f)
  back_good None f h g = record { locals = g.locals; stack = g.stack }
  back_good (Some v) f h g = record { locals = g.locals; stack = (h, g.stack) }

  left_good : (v : Option Value) (fs : List Frame) → InSlot IsOther v → AreGoodWaits p fs → IsGood p (left v fs)
  left_good v [] h g = tt
  left_good v (f ∷ fs) h g = (back_good v f h g.0.values, g.1)

  caught_good : (o : Option Handler) (v : Value) (f : Frame) (fs : List Frame) (x : Thread) → IsOther v → InFrame IsOther f → AreGoodWaits p fs → IsGood p x
      → IsGood p (caught o v f fs x)
  caught_good None v f fs x h g w k = k
  caught_good (Some row) v f fs x h g w k = (record { locals = g.locals; stack = (h, tt) }, w)

  unwound_good : (c : Thrown) (v : Value) (fs : List Frame) → IsOther v → AreGoodWaits p fs → IsGood p (unwound p c v fs)
  unwound_good c v [] h w = tt
  unwound_good c v (f ∷ fs) h w = caught_good (handler_of p c f) v f fs (unwound p c v fs) h w.0.values w.1 (unwound_good c v fs h w.1)

  -- ---- what is thrown

  record IsGoodRaised (r : Raised) : Type 0 where
    value : IsOther r.value
    statics : InStatics IsOther r.shared.statics

  made_good : (b : Bool) (c : Thrown) (s : Shared) → InStatics IsOther s.statics
      → IsGoodRaised (if b then record { thrown = c; value = object (length s.heap); shared = record s { heap = s.heap ++ throwable c ∷ [] } } else out_of_memory s)
  made_good true c s h = record { value = tt; statics = h }
  made_good false c s h = record { value = tt; statics = h }

  placed_good : (c : Thrown) (s : Shared) → InStatics IsOther s.statics → IsGoodRaised (placed c s)
  placed_good thrown.OutOfMemoryError s h = record { value = tt; statics = h }
  placed_good c s h = made_good (has_room s.heap 1) c s h

  module _ (s : Shared) (statics : InStatics IsOther s.statics) (f : Frame) (fs : List Frame) (values : InFrame IsOther f) (waits : AreGoodWaits p fs) where
    thrown_good : (r : Raised) → IsGoodRaised r → IsGoodAfter p s (thrown_in p r (f ∷ fs))
    thrown_good r h = record {
      thread = caught_good (handler_of p r.thrown f) r.value f fs (unwound p r.thrown r.value fs) h.value values waits (unwound_good r.thrown r.value fs h.value waits);
      statics = h.statics;
      raised = λ e. refl;
    }

    if_after : (b : Bool) (x y : After) → IsGoodAfter p s x → IsGoodAfter p s y → IsGoodAfter p s (if b then x else y)
    if_after true x y h g = h
    if_after false x y h g = g

    result_good : (i : LocatedInsn) → located p f.method f.place ≡ Some i → (r : Result) → Turned IsOther i.insn s f r → IsGoodAfter p s (after_result p r s f fs)
    result_good i e (goes s' g) t = record { thread = (t.values, waits); statics = t.statics; raised = λ r. t.raised ∙ r }
    result_good i e (hits class id g) t = absurd t.1
    result_good i e (calls callee locals g) t =
        if_after (overflows p callee (f ∷ fs)) (thrown_in p (placed thrown.StackOverflowError s) (f ∷ fs)) (after (running (new_frame callee locals) (g ∷ fs)) s)
        (thrown_good (placed thrown.StackOverflowError s) (placed_good thrown.StackOverflowError s statics))
        (record {
          thread = (
            record { locals = t.arguments; stack = tt },
            (
              record { values = t.values; call = record { insn = i; here = ap (λ m. located p m g.place) t.method ∙ ap (located p f.method) t.place ∙ e; flow = t.flow } },
              waits,
            ),
          );
          statics = statics;
          raised = λ r. r;
        })
    result_good i e (leaves v) t = record { thread = left_good v fs t.0 waits; statics = statics; raised = λ r. r }
    result_good i e (raises c) t = thrown_good (placed c s) (placed_good c s statics)
    result_good i e (throws c v) t = thrown_good (record { thrown = c; value = v; shared = s }) (record { value = t.0; statics = statics })
    result_good i e gets_stuck t = record { thread = tt; statics = statics; raised = λ r. r }

    running_good : (o : Option LocatedInsn) → located p f.method f.place ≡ o → IsGoodAfter p s (after_result p (result_of p s f) s f fs)
    running_good None e =
        subst (λ r. IsGoodAfter p s (after_result p r s f fs)) (sym (nowhere s f e)) (record { thread = tt; statics = statics; raised = λ r. r })
    running_good (Some i) e = result_good i e (result_of p s f) (turned_here s f i e values statics)

  pub turn_good : (s : Shared) (x : Thread) → InStatics IsOther s.statics → IsGood p x → IsGoodAfter p s (turn_of p s x)
  turn_good s (running f fs) h g = running_good s h f fs g.0 g.1 (located p f.method f.place) refl
  turn_good s (returned v) h g = record { thread = tt; statics = h; raised = λ r. r }
  turn_good s (threw c) h g = record { thread = tt; statics = h; raised = λ r. r }
  turn_good s (stuck m q) h g = record { thread = tt; statics = h; raised = λ r. r }

  -- ---- turns of a world

  step_by : (w : World) (t : ℕ) → IsGoodWorld p w → (o : Option Thread) → slice_get w.threads t ≡ o → IsGoodWorld p (step_of p w t o)
  step_by w t h None e = h
  step_by w t h (Some x) e =
      let a = turn_good w.shared x h.statics (all_at (IsGood p) w.threads t x h.threads e) in
      record { statics = a.statics; threads = set_each IsOther (IsGood p) w.threads t (turn_of p w.shared x).thread h.threads a.thread }

  pub step_good : (w : World) (t : ℕ) → IsGoodWorld p w → IsGoodWorld p (step p w t)
  unfolding step
  step_good w t h = step_by w t h (slice_get w.threads t) refl

  pub run_good : (turns : List ℕ) (w : World) → IsGoodWorld p w → IsGoodWorld p (run_from p w turns)
  run_good [] w h = h
  run_good (t ∷ turns) w h = run_good turns (step p w t) (step_good w t h)

  -- what was raised stays so
  raised_by : (w : World) (t : ℕ) → IsGoodWorld p w → w.shared.raised ≡ true → (o : Option Thread) → slice_get w.threads t ≡ o → (step_of p w t o).shared.raised ≡ true
  raised_by w t h r None e = r
  raised_by w t h r (Some x) e = (turn_good w.shared x h.statics (all_at (IsGood p) w.threads t x h.threads e)).raised r

  step_raised : (w : World) (t : ℕ) → IsGoodWorld p w → w.shared.raised ≡ true → (step p w t).shared.raised ≡ true
  unfolding step
  step_raised w t h r = raised_by w t h r (slice_get w.threads t) refl

  pub run_raised : (turns : List ℕ) (w : World) → IsGoodWorld p w → w.shared.raised ≡ true → (run_from p w turns).shared.raised ≡ true
  run_raised [] w h r = r
  run_raised (t ∷ turns) w h r = run_raised turns (step p w t) (step_good w t h) (step_raised w t h r)
