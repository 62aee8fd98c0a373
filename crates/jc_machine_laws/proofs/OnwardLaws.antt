-- Frames that go on: where an instruction leads, and at a handler.
use Rattle.std.proofs.Common.{◌≡◌, ◌⊎◌, inl, inr, ⊎_elim, ℕ, zero, suc, ◌+◌, ◌<◌, ◌≤◌, Bool, true, false, not, cond, List, [], ◌∷◌}
use Rattle.std.proofs.Common.{◌++◌, length, Option, Some, None, reverse, codes, le_trans, nat_eq, nat_le, nat_lt, refl, sym}
use Rattle.std.proofs.Common.{◌∙◌, ap, subst, arith}
use Rattle.std.proofs.lemmas.Bool.{ltb-true, leb-true, and_parts}
use Rattle.std.proofs.lemmas.List.{reverse-append}
use Rattle.std.proofs.lemmas.Option.{slice_get_within, same_Some}
use Rattle.std.specs.Prelude.{All, IsTrue, Contains, slice_get, option_and_then, find, filter}
use Rattle.std.specs.List.{AllByRecursion}
use Rattle.jc_bytes.proofs.OptionLaws.{none_some}
use Rattle.jc_bytes.proofs.ListLaws.{each_in, item_at}
use Rattle.jc_methods.specs.declared.insn.Insn.{Insn}
use Rattle.jc_methods.specs.declared.body.Handler.{Handler}
use Rattle.jc_methods.specs.declared.body.Body.{Body}
use Rattle.jc_methods.specs.Flow.{targets_of, GoesOnFrom}
use Rattle.jc_methods.specs.VerificationTypes.{VerificationType, TypeState}
use Rattle.jc_methods.specs.InsnUse.{LeadsWithin}
use Rattle.jc_methods.specs.WellMade.{IsWellMade, IsHandler, what_used}
use Rattle.jc_methods.specs.VerificationTypes as verification
use Rattle.jc_programs.specs.declared.program.Program.{Program}
use Rattle.jc_programs.specs.declared.program.Linked.{Linked}
use Rattle.jc_programs.specs.declared.run_end.Entry.{Entry}
use Rattle.jc_programs.specs.declared.run_end.Thrown.{Thrown}
use Rattle.jc_programs.specs.Members.{class_at}
use Rattle.jc_kinds_after.specs.After.{after_of, class_in}
use Rattle.jc_kinds.specs.Fits.{Fits, IsNullOrObject}
use Rattle.jc_kinds.specs.States.{state_of, after_at}
use Rattle.jc_kinds.specs.Checked.{JumpsTo, LeadsTo, Guards, caught as caught_kind, at_handler}
use Rattle.jc_machine_model.specs.Programs.{IsProgram, IsLinked, IsProgramBody}
use Rattle.jc_machine_model.specs.Values.{Value}
use Rattle.jc_machine_model.specs.Heap.{HeapObject}
use Rattle.jc_machine_model.specs.World.{Frame}
use Rattle.jc_machine_model.specs.Methods.{is_plain}
use Rattle.jc_machine_model.specs.Objects.{thrown_of}
use Rattle.jc_machine_model.specs.Step.{catches, handles, handler_in, handler_of, caught, unwound, is_init_method, counted_frames}
use Rattle.jc_machine_model.specs.Fits.{IsOfBy, IsInSlotBy, AreInSlotsBy, AreOfBy, IsStackBy, IsThere, AreThereIn, KeepsPairs, StandsInBy, StandsIn, made_in}
use Rattle.jc_machine_model.specs.Fits.{FitsTopBy, FitEachWaitingBy, FitsRunningBy, FitsThreadBy}
use Rattle.jc_machine_model.proofs.BeginLaws.{all_at}
use Rattle.jc_kinds.specs.Flows.{EachBy, StateBy, ThereBy, FlowsBy}
use Rattle.jc_machine_laws.specs.Typings.{IsFlowing}
use Rattle.jc_machine_laws.proofs.TypedLaws.{HoldingTyping, held_in}
use Rattle.jc_machine_laws.proofs.LocalLaws.{to_slot, from_slot}

-- ---- lists

first_in : {X : Type 0} (x : X) (xs : List X) → Contains (x ∷ xs) x
first_in x xs = (0, omega arith, refl)

later_in : {X : Type 0} (x : X) (xs : List X) (y : X) → Contains xs y → Contains (x ∷ xs) y
later_in x xs y h = let lt = h.1 in (suc h.0, omega (arith, lt), h.2)

found_in : {X : Type 0} (p : X → Bool) (xs : List X) (x : X) → find p xs ≡ Some x → (p x ≡ true) × Contains xs x
found_in p [] x e = absurd (none_some e)
found_in p (y ∷ xs) x e = by (p y) refl e (λ q. found_in p xs x q)
  where
    by : (b : Bool) → p y ≡ b → cond b (Some y) (find p xs) ≡ Some x → (find p xs ≡ Some x → (p x ≡ true) × Contains xs x) → (p x ≡ true) × Contains (y ∷ xs) x
    by true q f again = (subst (λ z. p z ≡ true) (same_Some y x f) q, subst (λ z. Contains (y ∷ xs) z) (same_Some y x f) (first_in y xs))
    by false q f again = let r = again f in (r.0, later_in y xs x r.1)

all_in : {X : Type 0} (P : X → Type 0) (xs : List X) (x : X) → All P xs → Contains xs x → P x
all_in P xs x h c = subst P c.2 (h c.0 x c.1)

-- an instruction behind which none stands is the last
split_last : {X : Type 0} (xs : List X) (i : ℕ) (x : X) → slice_get xs i ≡ Some x → (i + 1 < length xs) ⊎ ((before : List X) × (xs ≡ before ++ x ∷ []))
split_last [] i x e = absurd (none_some e)
split_last (y ∷ []) zero x e = inr ([], ap (λ z. z ∷ []) (same_Some y x e))
split_last (y ∷ []) (suc i) x e = absurd (none_some e)
split_last (y ∷ z ∷ xs) zero x e = inl (omega arith)
split_last (y ∷ z ∷ xs) (suc i) x e = ⊎_elim (λ lt. inl (omega (arith, lt))) (λ p. inr (y ∷ p.0, ap (λ l. y ∷ l) p.1)) (split_last (z ∷ xs) i x e)

-- ---- where a frame stands

-- what is known of a frame that stands at an instruction
pub record Here (program : Program) (f : Frame) (c : Linked) (b : Body) (insn : Insn) (s : TypeState) : Type 0 where
  pub class_is : class_at program f.method.class ≡ Some c
  pub body_is : slice_get c.bodies f.method.method ≡ Some b
  pub plain : is_plain c b ≡ true
  pub insn_is : slice_get b.code f.place ≡ Some insn
  pub state_is : state_of program.names b f.place ≡ Some s
  pub whole : IsProgramBody program.names b

pub whole_body : (program : Program) (f : Frame) (c : Linked) (b : Body) → IsProgram program
    → class_at program f.method.class ≡ Some c → slice_get c.bodies f.method.method ≡ Some b → IsProgramBody program.names b
whole_body program f c b p e g =
    all_at (IsProgramBody program.names) c.bodies f.method.method b
    (all_at (IsLinked program.names) program.classes f.method.class c p.classes e).bodies g

pub here_from : (enters : Linked → Body → Bool) → ((c : Linked) (b : Body) → IsTrue (enters c b) → IsTrue (is_plain c b))
    → (program : Program) (f : Frame) (s : TypeState) → IsProgram program → (st : StandsInBy enters program f s)
    → (insn : Insn) × Here program f st.linked st.body insn s
here_from enters plain program f s p st = let i = item_at st.body.code f.place st.within in (
  i.0,
  record {
    class_is = st.class_is;
    body_is = st.body_is;
    plain = plain st.linked st.body st.entered;
    insn_is = i.1;
    state_is = st.state_is;
    whole = whole_body program f st.linked st.body p st.class_is st.body_is;
  },
)

pub here_of : (program : Program) (f : Frame) (s : TypeState) → IsProgram program → (st : StandsIn program f s)
    → (insn : Insn) × Here program f st.linked st.body insn s
here_of program f s p st = here_from is_plain (λ c b e. e) program f s p st

-- ---- where an instruction leads

goes_within : (b : Body) (i : ℕ) → IsWellMade b → GoesOnFrom b i → i + 1 < length b.code
goes_within b i w g = ⊎_elim (λ lt. lt) (λ p. absurd (w.of_any_size.code.ends p.0 g.insn p.1 g.falls)) (split_last b.code i g.insn g.stands)

jumps_within : (b : Body) (i j : ℕ) → IsWellMade b → JumpsTo b i j → j < length b.code
jumps_within b i j w g =
    each_in (λ to. to < length b.code) (targets_of g.insn) j
    (all_at (LeadsWithin (length b.code)) b.code i g.insn w.of_any_size.code.places g.stands) g.target

leads_within : (b : Body) (i j : ℕ) → IsWellMade b → LeadsTo b i j → j < length b.code
leads_within b i j w (inl p) = subst (λ k. k < length b.code) (sym p.1) (goes_within b i w p.0)
leads_within b i j w (inr p) = jumps_within b i j w p

pub after_there : (program : Program) (f : Frame) (c : Linked) (b : Body) (insn : Insn) (s : TypeState) → Here program f c b insn s
    → after_at program.names b f.place ≡ after_of b f.place s
after_there program f c b insn s h = ap (option_and_then (after_of b f.place)) h.state_is

-- ---- values along a relation of types

-- the reference is held at the type where its type passes, and what is no reference is of the kind
module _ (ty : HoldingTyping) (fits : (h k : VerificationType) → ty.passes h k → Fits h k) (heap : List HeapObject) (made : ℕ → List ℕ) where
  same_kind : (v : Value) (h k : VerificationType) → (IsNullOrObject h → ⊥) → Fits h k → IsOfBy (ty.typing.holds heap made) v h
      → IsOfBy (ty.typing.holds heap made) v k
  same_kind v h k n (inl e) p = subst (λ x. IsOfBy (ty.typing.holds heap made) v x) (sym e) tt
  same_kind v h k n (inr (inl e)) p = subst (λ x. IsOfBy (ty.typing.holds heap made) v x) e p
  same_kind v h k n (inr (inr q)) p = absurd (n q.0)

  pub kind_passes : (v : Value) (h k : VerificationType) → IsOfBy (ty.typing.holds heap made) v h → ty.passes h k → IsOfBy (ty.typing.holds heap made) v k
  kind_passes v verification.null k p s = ty.holding.on heap made v verification.null k refl p s
  kind_passes v verification.uninit_this k p s = ty.holding.on heap made v verification.uninit_this k refl p s
  kind_passes v (verification.object name) k p s = ty.holding.on heap made v (verification.object name) k refl p s
  kind_passes v (verification.uninit at) k p s = ty.holding.on heap made v (verification.uninit at) k refl p s
  kind_passes v verification.top k p s = same_kind v verification.top k (λ x. x) (fits verification.top k s) p
  kind_passes v verification.int k p s = same_kind v verification.int k (λ x. x) (fits verification.int k s) p
  kind_passes v verification.long k p s = same_kind v verification.long k (λ x. x) (fits verification.long k s) p
  kind_passes v verification.float k p s = absurd p
  kind_passes v verification.double k p s = absurd p

  -- nothing stands where `top` is
  nothing_passes : (k : VerificationType) → Fits verification.top k → IsInSlotBy (ty.typing.holds heap made) None k
  nothing_passes k (inl e) = subst (λ x. IsInSlotBy (ty.typing.holds heap made) None x) (sym e) tt
  nothing_passes k (inr (inl e)) = subst (λ x. IsInSlotBy (ty.typing.holds heap made) None x) e tt
  nothing_passes k (inr (inr q)) = absurd q.0

  slot_passes : (l : Option Value) (h k : VerificationType) → IsInSlotBy (ty.typing.holds heap made) l h → ty.passes h k
      → IsInSlotBy (ty.typing.holds heap made) l k
  slot_passes None verification.top k p s = nothing_passes k (fits verification.top k s)
  slot_passes None h k p s = absurd p
  slot_passes (Some v) h k p s =
      to_slot (held_in ty heap made) v k (kind_passes v h k (from_slot (held_in ty heap made) v h p) s)

  pub slots_pass : (locals : List (Option Value)) (x y : List VerificationType) → AreInSlotsBy (ty.typing.holds heap made) locals x
      → EachBy ty.passes x y → AreInSlotsBy (ty.typing.holds heap made) locals y
  slots_pass [] [] [] p s = tt
  slots_pass [] [] (k ∷ y) p s = absurd s
  slots_pass [] (h ∷ x) y p s = absurd p
  slots_pass (l ∷ locals) [] y p s = absurd p
  slots_pass (l ∷ locals) (h ∷ x) [] p s = absurd s
  slots_pass (l ∷ locals) (h ∷ x) (k ∷ y) p s = (slot_passes l h k p.0 s.0, slots_pass locals x y p.1 s.1)

  values_pass : (values : List Value) (x y : List VerificationType) → AreOfBy (ty.typing.holds heap made) values x
      → EachBy ty.passes x y → AreOfBy (ty.typing.holds heap made) values y
  values_pass [] [] [] p s = tt
  values_pass [] [] (k ∷ y) p s = absurd s
  values_pass [] (h ∷ x) y p s = absurd p
  values_pass (v ∷ values) [] y p s = absurd p
  values_pass (v ∷ values) (h ∷ x) [] p s = absurd s
  values_pass (v ∷ values) (h ∷ x) (k ∷ y) p s = (kind_passes v h k p.0 s.0, values_pass values x y p.1 s.1)

  each_append : (x y u v : List VerificationType) → EachBy ty.passes x u → EachBy ty.passes y v → EachBy ty.passes (x ++ y) (u ++ v)
  each_append [] y [] v p q = q
  each_append [] y (k ∷ u) v p q = absurd p
  each_append (h ∷ x) y [] v p q = absurd p
  each_append (h ∷ x) y (k ∷ u) v p q = (p.0, each_append x y u v p.1 q)

  each_reverse : (x y : List VerificationType) → EachBy ty.passes x y → EachBy ty.passes (reverse x) (reverse y)
  each_reverse [] [] p = tt
  each_reverse [] (k ∷ y) p = absurd p
  each_reverse (h ∷ x) [] p = absurd p
  each_reverse (h ∷ x) (k ∷ y) p =
      subst (λ l. EachBy ty.passes l (reverse (k ∷ y))) (sym (reverse-append (h ∷ []) x))
      (subst (λ l. EachBy ty.passes (reverse x ++ h ∷ []) l) (sym (reverse-append (k ∷ []) y))
      (each_append (reverse x) (h ∷ []) (reverse y) (k ∷ []) (each_reverse x y p.1) (p.0, tt)))

  pub stack_passes : (stack : List Value) (x y : List VerificationType) → IsStackBy (ty.typing.holds heap made) stack x
      → EachBy ty.passes x y → IsStackBy (ty.typing.holds heap made) stack y
  stack_passes stack x y p s = values_pass stack (reverse x) (reverse y) p (each_reverse x y s)

pub there_by : (S : VerificationType → VerificationType → Type 0) (s : TypeState) (o : Option TypeState) → ThereBy S (Some s) o
    → (t : TypeState) × (o ≡ Some t) × StateBy S s t
there_by S s None f = absurd f
there_by S s (Some t) f = (t, refl, f)

-- ---- frames that go on

module _ (ty : HoldingTyping) (program : Program) (flowing : IsFlowing ty.typing ty.passes program) (heap : List HeapObject) where
  flows_here : (f : Frame) (c : Linked) (b : Body) (insn : Insn) (s : TypeState) → Here program f c b insn s → IsTrue (ty.typing.enters c b)
      → FlowsBy ty.passes program.names b
  flows_here f c b insn s h w = flowing.flows f.method c b (record { class_is = h.class_is; body_is = h.body_is }) w

  -- values that are of the types after the instruction are of those where it leads
  pub onward : (f : Frame) (c : Linked) (b : Body) (insn : Insn) (s t : TypeState) (j : ℕ)
      (locals : List (Option Value)) (stack : List Value) → Here program f c b insn s → IsTrue (ty.typing.enters c b)
      → after_of b f.place s ≡ Some t → LeadsTo b f.place j
      → AreInSlotsBy (ty.typing.holds heap (made_in b)) locals t.locals → KeepsPairs locals → IsStackBy (ty.typing.holds heap (made_in b)) stack t.stack
      → FitsTopBy ty.typing.enters (ty.typing.holds heap) program (record { method = f.method; place = j; locals = locals; stack = stack })
  onward f c b insn s t j locals stack h w e l p m q =
      let o = (flows_here f c b insn s h w).branches f.place j l in
      let r = there_by ty.passes t (state_of program.names b j)
      (subst (λ x. ThereBy ty.passes x (state_of program.names b j)) (after_there program f c b insn s h ∙ e) o) in
      record {
        state = r.0;
        stands =
            record {
              linked = c;
              class_is = h.class_is;
              body = b;
              body_is = h.body_is;
              entered = w;
              within = leads_within b f.place j h.whole.well_made l;
              state_is = r.1;
            };
        locals = slots_pass ty flowing.fits heap (made_in b) locals t.locals r.0.locals p r.2.locals;
        pairs = m;
        stack = stack_passes ty flowing.fits heap (made_in b) stack t.stack r.0.stack q r.2.stack;
      }

-- ---- at a handler

-- the row that is found guards the instruction, and catches the class
guarded : (b : Body) (place : ℕ) (c : Thrown) (row : Handler) → find (handles b place c) b.handlers ≡ Some row
    → Guards b row place × IsTrue (catches b row c)
guarded b place c row e =
    let p = found_in (handles b place c) b.handlers row e in
    let q = and_parts (nat_le row.start place) _ p.0 in
    let r = and_parts (nat_lt place row.end) _ q.1 in
    (record { row = p.1; start = leb-true row.start place q.0; end = ltb-true place row.end r.0 }, r.1)

caught_held : (ty : HoldingTyping) (heap : List HeapObject) (v : Value) (b : Body) (row : Handler)
    → ty.typing.holds heap (made_in b) v (caught_kind b row) → IsOfBy (ty.typing.holds heap (made_in b)) v (caught_kind b row)
caught_held ty heap v b row r = by (nat_eq row.class 0) r
  where
    by : (t : Bool) → ty.typing.holds heap (made_in b) v (cond t (verification.object (codes "java/lang/Throwable")) (verification.object (class_in (what_used b.uses row.class))))
        → IsOfBy (ty.typing.holds heap (made_in b)) v
        (cond t (verification.object (codes "java/lang/Throwable")) (verification.object (class_in (what_used b.uses row.class))))
    by true r = r
    by false r = r

module _ (ty : HoldingTyping) (program : Program) (flowing : IsFlowing ty.typing ty.passes program) (heap : List HeapObject) where
  pub caught_fits : (f : Frame) (c : Linked) (b : Body) (insn : Insn) (s : TypeState) (thrown : Thrown)
      (row : Handler) (v : Value) → Here program f c b insn s → IsTrue (ty.typing.enters c b)
      → AreInSlotsBy (ty.typing.holds heap (made_in b)) f.locals s.locals → KeepsPairs f.locals
      → handler_in f.place thrown b ≡ Some row → thrown_of heap v ≡ Some thrown
      → FitsTopBy ty.typing.enters (ty.typing.holds heap) program (record f { place = row.target; stack = v ∷ [] })
  caught_fits f c b insn s thrown row v h w p m e r =
      let g = guarded b f.place thrown row e in
      let o = (flows_here ty program flowing heap f c b insn s h w).handlers row f.place g.0 (slice_get_within b.code f.place insn h.insn_is) in
      let k = there_by ty.passes (record s { stack = caught_kind b row ∷ [] }) (state_of program.names b row.target)
      (subst (λ x. ThereBy ty.passes (at_handler b row x) (state_of program.names b row.target)) h.state_is o) in
      let of = all_in (IsHandler (length b.code)) b.handlers row h.whole.well_made.of_any_size.handlers (g.0).row in
      let is = caught_held ty heap v b row (ty.holding.caught_is heap (made_in b) b row thrown v r g.1) in
      record {
        state = k.0;
        stands = record { linked = c; class_is = h.class_is; body = b; body_is = h.body_is; entered = w; within = of.target; state_is = k.1 };
        locals = slots_pass ty flowing.fits heap (made_in b) f.locals s.locals k.0.locals p k.2.locals;
        pairs = m;
        stack = stack_passes ty flowing.fits heap (made_in b) (v ∷ []) (caught_kind b row ∷ []) k.0.stack (is, tt) k.2.stack;
      }

-- the handler of a frame is that of its body
handler_there : (program : Program) (f : Frame) (c : Linked) (b : Body) (insn : Insn) (s : TypeState) (thrown : Thrown)
    → Here program f c b insn s → handler_of program thrown f ≡ handler_in f.place thrown b
handler_there program f c b insn s thrown h =
    ap (option_and_then (handler_in f.place thrown)) (ap (option_and_then (λ (d : Linked). slice_get d.bodies f.method.method)) h.class_is ∙ h.body_is)

-- ---- unwinding

pub counted_step : (program : Program) (f : Frame) (waiting : List Frame) → is_init_method program f.method ≡ false
    → counted_frames program (f ∷ waiting) ≡ suc (counted_frames program waiting)
counted_step program f waiting e =
    ap (λ b. length (cond (not b) (f ∷ filter (λ (g : Frame). not (is_init_method program g.method)) waiting)
    (filter (λ (g : Frame). not (is_init_method program g.method)) waiting))) e

pub counted_more : (program : Program) (f : Frame) (waiting : List Frame) → counted_frames program waiting ≤ counted_frames program (f ∷ waiting)
counted_more program f waiting = by (is_init_method program f.method)
  where
    by : (b : Bool) → counted_frames program waiting ≤ length
        (cond (not b) (f ∷ filter (λ (g : Frame). not (is_init_method program g.method)) waiting)
        (filter (λ (g : Frame). not (is_init_method program g.method)) waiting))
    by true = omega arith
    by false = omega arith

-- frames count by their methods
counted_same : (program : Program) (f : Frame) (place : ℕ) (stack : List Value) (waiting : List Frame)
    → counted_frames program (record f { place = place; stack = stack } ∷ waiting) ≡ counted_frames program (f ∷ waiting)
counted_same program f place stack waiting = by (is_init_method program f.method)
  where
    by : (b : Bool) → length (cond (not b)
        (record f { place = place; stack = stack } ∷ filter (λ (g : Frame). not (is_init_method program g.method)) waiting)
        (filter (λ (g : Frame). not (is_init_method program g.method)) waiting))
        ≡ length (cond (not b) (f ∷ filter (λ (g : Frame). not (is_init_method program g.method)) waiting)
        (filter (λ (g : Frame). not (is_init_method program g.method)) waiting))
    by true = refl
    by false = refl

there_caught : (program : Program) (heap : List HeapObject) (f : Frame) (place : ℕ) (v : Value) → AreThereIn program heap f
    → IsThere program heap v → AreThereIn program heap (record f { place = place; stack = v ∷ [] })
there_caught program heap f place v a t = record { locals = a.locals; stack = (t, tt) }

module _ (ty : HoldingTyping) (program : Program) (flowing : IsFlowing ty.typing ty.passes program) (heap : List HeapObject) where
  -- what stands at an instruction of a body that has frames
  pub here_by : (f : Frame) (s : TypeState) → IsProgram program → (st : StandsInBy ty.typing.enters program f s)
      → (insn : Insn) × Here program f st.linked st.body insn s
  here_by f s p st = here_from ty.typing.enters flowing.plain program f s p st

  -- a throwable that unwinds waiting frames finds a handler whose frame fits, or ends the thread
  pub waiting_unwinds : (thrown : Thrown) (v : Value) (callee : Entry) (waiting : List Frame) → IsProgram program → thrown_of heap v ≡ Some thrown
      → IsThere program heap v → FitEachWaitingBy ty.typing.enters (ty.typing.holds heap) program callee waiting
      → AllByRecursion (AreThereIn program heap) waiting → counted_frames program waiting ≤ 128
      → FitsThreadBy ty.typing program heap (unwound program thrown v waiting)
  waiting_unwinds thrown v callee [] p r t w a n = tt
  waiting_unwinds thrown v callee (f ∷ waiting) p r t w a n =
      let few = le_trans (counted_more program f waiting) n in
      by (waiting_unwinds thrown v f.method waiting p r t w.1 a.1 few) (handler_of program thrown f) refl
    where
      k : (insn : Insn) × Here program f w.0.stands.linked w.0.stands.body insn w.0.state
      k = here_by f w.0.state p w.0.stands

      by : FitsThreadBy ty.typing program heap (unwound program thrown v waiting) → (o : Option Handler) → handler_of program thrown f ≡ o
          → FitsThreadBy ty.typing program heap (caught o v f waiting (unwound program thrown v waiting))
      by others None e = others
      by others (Some row) e = let one = counted_step program (record f { place = row.target; stack = v ∷ [] }) waiting w.0.no_init in record {
        some = omega (arith, one);
        few = subst (λ m. m ≤ 128) (sym (counted_same program f row.target (v ∷ []) waiting)) n;
        top =
            caught_fits ty program flowing heap f w.0.stands.linked w.0.stands.body k.0 w.0.state thrown row v k.1 w.0.stands.entered w.0.locals w.0.pairs
            (sym (handler_there program f w.0.stands.linked w.0.stands.body k.0 w.0.state thrown k.1) ∙ e) r;
        below = w.1;
        there = (there_caught program heap f row.target v a.0 t, a.1);
      }

  -- a throwable that unwinds the frames of a running thread finds a handler whose frame fits, or ends the thread
  pub thread_unwinds : (thrown : Thrown) (v : Value) (f : Frame) (waiting : List Frame) → IsProgram program → thrown_of heap v ≡ Some thrown
      → IsThere program heap v → FitsRunningBy ty.typing program heap f waiting
      → FitsThreadBy ty.typing program heap (unwound program thrown v (f ∷ waiting))
  thread_unwinds thrown v f waiting p r t w =
      let few = le_trans (counted_more program f waiting) w.few in
      by (waiting_unwinds thrown v f.method waiting p r t w.below w.there.1 few) (handler_of program thrown f) refl
    where
      k : (insn : Insn) × Here program f w.top.stands.linked w.top.stands.body insn w.top.state
      k = here_by f w.top.state p w.top.stands

      by : FitsThreadBy ty.typing program heap (unwound program thrown v waiting) → (o : Option Handler) → handler_of program thrown f ≡ o
          → FitsThreadBy ty.typing program heap (caught o v f waiting (unwound program thrown v waiting))
      by others None e = others
      by others (Some row) e = record {
        some = subst (λ m. 1 ≤ m) (sym (counted_same program f row.target (v ∷ []) waiting)) w.some;
        few = subst (λ m. m ≤ 128) (sym (counted_same program f row.target (v ∷ []) waiting)) w.few;
        top =
            caught_fits ty program flowing heap f w.top.stands.linked w.top.stands.body k.0 w.top.state thrown row v k.1 w.top.stands.entered
            w.top.locals w.top.pairs
            (sym (handler_there program f w.top.stands.linked w.top.stands.body k.0 w.top.state thrown k.1) ∙ e) r;
        below = w.below;
        there = (there_caught program heap f row.target v w.there.0 t, w.there.1);
      }
