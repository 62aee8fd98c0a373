-- Each turn keeps a world fitting: what is there stays there as the heap grows, and is held by the types that held it.
use Rattle.std.proofs.Common.{◌≡◌, ⊎_elim, ℕ, ◌≤◌, ◌<◌, Bool, List, [], ◌∷◌, ◌++◌, length, Option, Some, None, reverse, refl, sym, ◌∙◌}
use Rattle.std.proofs.Common.{arith, length-append, le_refl, slice_set, ap, subst}
use Rattle.std.proofs.lemmas.Option.{same_Some}
use Rattle.std.specs.Prelude.{slice_get}
use Rattle.std.specs.List.{AllByRecursion}
use Rattle.jc_bytes.proofs.ListLaws.{put_stays}
use Rattle.jc_methods.specs.EntryState.{held_of}
use Rattle.jc_methods.specs.VerificationTypes.{VerificationType}
use Rattle.jc_methods.specs.VerificationTypes as verification
use Rattle.jc_programs.specs.declared.program.Program.{Program}
use Rattle.jc_programs.specs.declared.program.Linked.{Linked}
use Rattle.jc_programs.specs.declared.run_end.Entry.{Entry}
use Rattle.jc_machine_model.specs.Values.{Value, object}
use Rattle.jc_machine_model.specs.Heap.{HeapObject, array, throwable}
use Rattle.jc_machine_model.specs.World.{Frame, Thread, running, returned, threw, stuck, Shared}
use Rattle.jc_machine_model.specs.Fits.{IsOfBy, IsInSlotBy, AreInSlotsBy, AreOfBy, IsStackBy, IsThere, IsThereInSlot, AreThereIn, AreClassStaticsBy, AreStaticsBy}
use Rattle.jc_machine_model.specs.Fits.{made_in, nothing_made, FitsTopBy, FitsWaitingBy, FitEachWaitingBy, FitsRunningBy, FitsThreadBy}
use Rattle.jc_machine_model.proofs.PairLaws.{set_at, set_length}
use Rattle.jc_machine_laws.specs.Typings.{IsOfSameClass, KeepsObjects}
use Rattle.jc_machine_laws.proofs.TypedLaws.{HoldingTyping}

pub each_to : {X : Type 0} (P Q : X → Type 0) (xs : List X) → ((x : X) → P x → Q x) → AllByRecursion P xs → AllByRecursion Q xs
each_to P Q [] h p = tt
each_to P Q (x ∷ xs) h p = (h x p.0, each_to P Q xs h p.1)

-- ---- heaps

-- the heap has more objects, or others in the places of some of the same class
pub record Grows (heap more : List HeapObject) : Type 0 where
  pub longer : length heap ≤ length more
  pub keeps : KeepsObjects heap more

same_class : (x : HeapObject) → IsOfSameClass x x
same_class (array element elements) = refl
same_class (throwable c) = refl

pub same_heap : (heap : List HeapObject) → Grows heap heap
same_heap heap = record { longer = le_refl (length heap); keeps = λ k x e. (x, e, same_class x) }

pub longer_by : (heap : List HeapObject) (x : HeapObject) → Grows heap (heap ++ x ∷ [])
longer_by heap x =
    let e = length-append heap (x ∷ []) in
    record { longer = omega (arith, e); keeps = λ k y g. (y, put_stays heap x y k g, same_class y) }

pub at_end : (heap : List HeapObject) (x : HeapObject) → length heap < length (heap ++ x ∷ [])
at_end heap x = let e = length-append heap (x ∷ []) in omega (arith, e)

-- one object becomes another of the same class
pub one_set : (heap : List HeapObject) (j : ℕ) (x y : HeapObject) → slice_get heap j ≡ Some x → IsOfSameClass x y → Grows heap (slice_set heap j y)
one_set heap j x y e c = record { longer = let n = set_length heap j y in omega (arith, n); keeps = keeps }
  where
    keeps : KeepsObjects heap (slice_set heap j y)
    keeps k z g = ⊎_elim
        (λ (w : (k ≡ j) × (slice_get (slice_set heap j y) k ≡ Some y)).
        (y, w.1, subst (λ o. IsOfSameClass o y) (same_Some x z (sym e ∙ ap (slice_get heap) (sym w.0) ∙ g)) c))
        (λ (w : slice_get (slice_set heap j y) k ≡ slice_get heap k). (z, w ∙ g, same_class z))
        (set_at heap j k y)

-- ---- references to what is there

module _ (program : Program) (heap more : List HeapObject) (n : length heap ≤ length more) where
  pub value_grows : (v : Value) → IsThere program heap v → IsThere program more v
  value_grows (object k) p = let lt : k < length heap = p in omega (arith, lt, n)
  value_grows v p = p

  pub slot_grows : (l : Option Value) → IsThereInSlot program heap l → IsThereInSlot program more l
  slot_grows None p = tt
  slot_grows (Some v) p = value_grows v p

  pub values_grow : (values : List Value) → AllByRecursion (IsThere program heap) values → AllByRecursion (IsThere program more) values
  values_grow values p = each_to (IsThere program heap) (IsThere program more) values value_grows p

  pub slots_grow : (locals : List (Option Value)) → AllByRecursion (IsThereInSlot program heap) locals → AllByRecursion (IsThereInSlot program more) locals
  slots_grow locals p = each_to (IsThereInSlot program heap) (IsThereInSlot program more) locals slot_grows p

  pub frame_grows : (f : Frame) → AreThereIn program heap f → AreThereIn program more f
  frame_grows f a = record { locals = slots_grow f.locals a.locals; stack = values_grow f.stack a.stack }

  pub frames_grow : (frames : List Frame) → AllByRecursion (AreThereIn program heap) frames → AllByRecursion (AreThereIn program more) frames
  frames_grow frames p = each_to (AreThereIn program heap) (AreThereIn program more) frames frame_grows p

  pub statics_grow : (statics : List (List Value)) → AllByRecursion (AllByRecursion (IsThere program heap)) statics
      → AllByRecursion (AllByRecursion (IsThere program more)) statics
  statics_grow statics p = each_to (AllByRecursion (IsThere program heap)) (AllByRecursion (IsThere program more)) statics values_grow p

-- ---- values of types

module _ (ty : HoldingTyping) (heap more : List HeapObject) (g : Grows heap more) where
  pub held_on : (made : ℕ → List ℕ) (v : Value) (h : VerificationType) → IsOfBy (ty.typing.holds heap made) v h → IsOfBy (ty.typing.holds more made) v h
  held_on made v verification.null p = ty.holding.grows heap more made v verification.null g.keeps p
  held_on made v verification.uninit_this p = ty.holding.grows heap more made v verification.uninit_this g.keeps p
  held_on made v (verification.object name) p = ty.holding.grows heap more made v (verification.object name) g.keeps p
  held_on made v (verification.uninit at) p = ty.holding.grows heap more made v (verification.uninit at) g.keeps p
  held_on made v verification.top p = tt
  held_on made v verification.int p = p
  held_on made v verification.long p = p
  held_on made v verification.float p = p
  held_on made v verification.double p = p

  slot_on : (made : ℕ → List ℕ) (l : Option Value) (h : VerificationType) → IsInSlotBy (ty.typing.holds heap made) l h
      → IsInSlotBy (ty.typing.holds more made) l h
  slot_on made l verification.top p = tt
  slot_on made None h p = p
  slot_on made (Some v) h p = held_on made v h p

  pub slots_on : (made : ℕ → List ℕ) (locals : List (Option Value)) (types : List VerificationType) → AreInSlotsBy (ty.typing.holds heap made) locals types
      → AreInSlotsBy (ty.typing.holds more made) locals types
  slots_on made [] [] p = tt
  slots_on made [] (h ∷ types) p = absurd p
  slots_on made (l ∷ locals) [] p = absurd p
  slots_on made (l ∷ locals) (h ∷ types) p = (slot_on made l h p.0, slots_on made locals types p.1)

  values_on : (made : ℕ → List ℕ) (values : List Value) (types : List VerificationType) → AreOfBy (ty.typing.holds heap made) values types
      → AreOfBy (ty.typing.holds more made) values types
  values_on made [] [] p = tt
  values_on made [] (h ∷ types) p = absurd p
  values_on made (v ∷ values) [] p = absurd p
  values_on made (v ∷ values) (h ∷ types) p = (held_on made v h p.0, values_on made values types p.1)

  pub stack_on : (made : ℕ → List ℕ) (stack : List Value) (types : List VerificationType) → IsStackBy (ty.typing.holds heap made) stack types
      → IsStackBy (ty.typing.holds more made) stack types
  stack_on made stack types p = values_on made stack (reverse types) p

  class_statics_on : (c : Linked) (values : List Value) → AreClassStaticsBy (ty.typing.holds heap nothing_made) c values
      → AreClassStaticsBy (ty.typing.holds more nothing_made) c values
  class_statics_on c values a = record {
    count = a.count;
    right = a.right;
    held = λ k f type v e n t q r. ty.holding.grows heap more nothing_made v (held_of type) g.keeps (a.held k f type v e n t q r);
  }

  pub statics_on : (classes : List Linked) (statics : List (List Value)) → AreStaticsBy (ty.typing.holds heap nothing_made) classes statics
      → AreStaticsBy (ty.typing.holds more nothing_made) classes statics
  statics_on [] [] a = tt
  statics_on [] (values ∷ statics) a = absurd a
  statics_on (c ∷ classes) [] a = absurd a
  statics_on (c ∷ classes) (values ∷ statics) a = (class_statics_on c values a.0, statics_on classes statics a.1)

  -- ---- threads

  top_on : (program : Program) (f : Frame) → FitsTopBy ty.typing.enters (ty.typing.holds heap) program f
      → FitsTopBy ty.typing.enters (ty.typing.holds more) program f
  top_on program f w = record {
    state = w.state;
    stands = w.stands;
    locals = slots_on (made_in w.stands.body) f.locals w.state.locals w.locals;
    pairs = w.pairs;
    stack = stack_on (made_in w.stands.body) f.stack w.state.stack w.stack;
  }

  waiting_on : (program : Program) (f : Frame) (callee : Entry) → FitsWaitingBy ty.typing.enters (ty.typing.holds heap) program f callee
      → FitsWaitingBy ty.typing.enters (ty.typing.holds more) program f callee
  waiting_on program f callee w = record {
    state = w.state;
    stands = w.stands;
    at_call = w.at_call;
    no_init = w.no_init;
    below_init = w.below_init;
    below_member = w.below_member;
    locals = slots_on (made_in w.stands.body) f.locals w.state.locals w.locals;
    pairs = w.pairs;
    left = w.left;
    given = w.given;
    parts = w.parts;
    count = w.count;
    stack = stack_on (made_in w.stands.body) f.stack w.left w.stack;
  }

  pub each_waiting_on : (program : Program) (callee : Entry) (waiting : List Frame)
      → FitEachWaitingBy ty.typing.enters (ty.typing.holds heap) program callee waiting
      → FitEachWaitingBy ty.typing.enters (ty.typing.holds more) program callee waiting
  each_waiting_on program callee [] w = tt
  each_waiting_on program callee (f ∷ waiting) w = (waiting_on program f callee w.0, each_waiting_on program f.method waiting w.1)

  pub running_on : (program : Program) (f : Frame) (waiting : List Frame) → FitsRunningBy ty.typing program heap f waiting
      → FitsRunningBy ty.typing program more f waiting
  running_on program f waiting r = record {
    some = r.some;
    few = r.few;
    top = top_on program f r.top;
    below = each_waiting_on program f.method waiting r.below;
    there = frames_grow program heap more g.longer (f ∷ waiting) r.there;
  }

  pub thread_on : (program : Program) (thread : Thread) → FitsThreadBy ty.typing program heap thread → FitsThreadBy ty.typing program more thread
  thread_on program (running f waiting) r = running_on program f waiting r
  thread_on program (returned v) r = tt
  thread_on program (threw c) r = tt
  thread_on program (stuck method place) r = r

-- ---- what threads share

pub record SharedFits (ty : HoldingTyping) (program : Program) (s : Shared) : Type 0 where
  pub statics : AreStaticsBy (ty.typing.holds s.heap nothing_made) program.classes s.statics
  pub there : AllByRecursion (AllByRecursion (IsThere program s.heap)) s.statics

-- another heap that has what this one has
pub shared_grows : (ty : HoldingTyping) (program : Program) (s : Shared) (more : List HeapObject) (output : List ℕ) (raised : Bool)
    → Grows s.heap more → SharedFits ty program s
    → SharedFits ty program (record { statics = s.statics; heap = more; output = output; raised = raised })
shared_grows ty program s more output raised g w = record {
  statics = statics_on ty s.heap more g program.classes s.statics w.statics;
  there = statics_grow program s.heap more g.longer s.statics w.there;
}
