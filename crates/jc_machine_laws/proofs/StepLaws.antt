-- Each turn keeps a world fitting: what one instruction leaves.
use Rattle.std.proofs.Common.{◌≡◌, inl, inr, ℕ, zero, suc, ◌+◌, ◌<◌, ℤ, Bool, true, false, cond, List, [], ◌∷◌, ◌++◌, length, drop}
use Rattle.std.proofs.Common.{Option, Some, None, refl, sym, ◌∙◌, ap, subst, slice_set, slice_index_or}
use Rattle.std.specs.Prelude.{⊤, IsTrue, Contains, option_and_then}
use Rattle.std.specs.List.{AllByRecursion}
use Rattle.std.specs.Int.{w32, int_wrapping_add}
use Rattle.std.proofs.lemmas.Option.{same_Some}
use Rattle.std.proofs.lemmas.Bool.{false≢true}
use Rattle.jc_bytes.specs.Descriptor.{FieldType}
use Rattle.jc_bytes.proofs.OptionLaws.{none_some}
use Rattle.jc_bytes.proofs.EachLaws.{all_both}
use Rattle.jc_bytes.proofs.DecoderLaws.{guard_some}
use Rattle.jc_methods.specs.declared.insn.Insn.{Insn}
use Rattle.jc_methods.specs.declared.body.Body.{Body}
use Rattle.jc_methods.specs.EntryState.{held_of}
use Rattle.jc_methods.specs.Flow.{FallsThrough, targets_of}
use Rattle.jc_methods.specs.VerificationTypes.{VerificationType, TypeState}
use Rattle.jc_methods.specs.VerificationTypes as verification
use Rattle.jc_programs.specs.declared.program.Program.{Program}
use Rattle.jc_programs.specs.declared.program.Linked.{Linked}
use Rattle.jc_programs.specs.declared.run_end.Entry.{Entry}
use Rattle.jc_kinds_after.specs.declared.want.Want.{Want}
use Rattle.jc_kinds_after.specs.Wants.{is_int, accepts}
use Rattle.jc_kinds_after.specs.Step.{kind, StackEffect, Step, moved_by, with_stack, limited, apply}
use Rattle.jc_kinds_after.specs.Table.{form, forms_at}
use Rattle.jc_kinds_after.specs.After.{after_of, step_of, returns_of, ground_of}
use Rattle.jc_kinds_after.specs.Step as kinds
use Rattle.jc_kinds.specs.Checked.{LeadsTo}
use Rattle.jc_machine_model.specs.Values.{Value, int, ComputationalType, is_of, is_pair}
use Rattle.jc_machine_model.specs.Heap.{HeapObject}
use Rattle.jc_machine_model.specs.World.{Frame, Shared}
use Rattle.jc_machine_model.specs.Effects.{Effect, gives, unfit, effect}
use Rattle.jc_machine_model.specs.Results.{Result, goes, hits, calls, leaves, raises, throws, gets_stuck, goes_with}
use Rattle.jc_machine_model.specs.Perform.{by_effect}
use Rattle.jc_machine_model.specs.Locals.{by_load, by_store, by_count, put_local}
use Rattle.jc_machine_model.specs.Step.{new_frame}
use Rattle.jc_machine_model.specs.Objects.{thrown_of}
use Rattle.jc_machine_model.specs.Fits.{IsOfBy, IsInSlotBy, AreInSlotsBy, IsStackBy, IsThere, IsThereInSlot, AreThereIn, KeepsPairs, IsProbe}
use Rattle.jc_machine_model.specs.Fits.{made_in, nothing_made, FitsTopBy, FitsWaitingBy}
use Rattle.jc_machine_model.specs.Effects as effects
use Rattle.jc_machine_model.proofs.PairLaws.{put_pairs, count_pairs}
use Rattle.jc_machine_laws.specs.Laws.{LeavesBy}
use Rattle.jc_machine_laws.specs.Typings.{IsFlowing}
use Rattle.jc_machine_laws.proofs.TypedLaws.{References, HoldingTyping, holds_in, references_in}
use Rattle.jc_machine_laws.proofs.GrowLaws.{Grows, same_heap, slots_on, stack_on, SharedFits}
use Rattle.jc_machine_laws.proofs.OnwardLaws.{Here, onward}
use Rattle.jc_machine_laws.proofs.StackLaws.{pair_as_type, below_is, upper_is, pushed, Top, top_of, leaf}
use Rattle.jc_machine_laws.proofs.EffectLaws.{leaf_none, effects_fit}
use Rattle.jc_machine_laws.proofs.LocalLaws.{read_fits, from_slot, put_fits, set_there, put_there, read_there}

-- ---- what a result has to be

pub record Goes (ty : HoldingTyping) (program : Program) (s s' : Shared) (f g : Frame) : Type 0 where
  pub method : g.method ≡ f.method
  pub fits : FitsTopBy ty.typing.enters (ty.typing.holds s'.heap) program g
  pub there : AreThereIn program s'.heap g
  pub shared : SharedFits ty program s'
  pub grows : Grows s.heap s'.heap

pub record Calls (ty : HoldingTyping) (program : Program) (heap : List HeapObject) (f : Frame) (callee : Entry) (locals : List (Option Value)) (g : Frame)
    : Type 0 where
  pub method : g.method ≡ f.method
  pub waits : FitsWaitingBy ty.typing.enters (ty.typing.holds heap) program g callee
  pub enters : FitsTopBy ty.typing.enters (ty.typing.holds heap) program (new_frame callee locals)
  pub there : AreThereIn program heap g
  pub new_there : AreThereIn program heap (new_frame callee locals)

-- a type of a descriptor says the same in each body
unfoldable pub ReturnFits : HoldingTyping → Program → List HeapObject → Option FieldType → Option Value → Type 0
ReturnFits ty program heap None None = ⊤
ReturnFits ty program heap (Some type) (Some v) = IsOfBy (ty.typing.holds heap nothing_made) v (held_of type) × IsThere program heap v
ReturnFits ty program heap _ _ = ⊥

unfoldable pub Fine : HoldingTyping → Program → Shared → Frame → Body → Result → Type 0
Fine ty program s f b (goes s' g) = Goes ty program s s' f g
Fine ty program s f b (hits class id g) = Goes ty program s s f g × IsProbe program (record { class = class; id = id })
Fine ty program s f b (calls callee locals g) = Calls ty program s.heap f callee locals g
Fine ty program s f b (leaves v) = ReturnFits ty program s.heap (returns_of b) v
Fine ty program s f b (raises c) = ⊤
Fine ty program s f b (throws c v) = (thrown_of s.heap v ≡ Some c) × IsThere program s.heap v
Fine ty program s f b gets_stuck = ⊤

-- ---- a turn

pub record Turn (ty : HoldingTyping) (program : Program) (s : Shared) (f : Frame) (c : Linked) (b : Body) (insn : Insn) (k t : TypeState) : Type 0 where
  pub flowing : IsFlowing ty.typing ty.passes program
  pub here : Here program f c b insn k
  pub entered : IsTrue (ty.typing.enters c b)
  pub after : after_of b f.place k ≡ Some t
  pub locals : AreInSlotsBy (holds_in ty s.heap b) f.locals k.locals
  pub pairs : KeepsPairs f.locals
  pub stack : IsStackBy (holds_in ty s.heap b) f.stack k.stack
  pub there : AreThereIn program s.heap f
  pub shared : SharedFits ty program s

module _ {ty : HoldingTyping} {program : Program} {s : Shared} {f : Frame} {c : Linked} {b : Body} {insn : Insn} {k t : TypeState}
    (turn : Turn ty program s f c b insn k t) where
  pub applied : apply (ground_of b f.place) (step_of b.uses (returns_of b) insn) k ≡ Some t
  unfolding after_of
  applied = ap (option_and_then (λ i. apply (ground_of b f.place) (step_of b.uses (returns_of b) i) k)) (sym (turn.here).insn_is) ∙ turn.after

  pub falls : FallsThrough insn → LeadsTo b f.place (f.place + 1)
  falls h = inl (record { insn = insn; stands = (turn.here).insn_is; falls = h }, refl)

  pub leads : (j : ℕ) → Contains (targets_of insn) j → LeadsTo b f.place j
  leads j h = inr (record { insn = insn; stands = (turn.here).insn_is; target = h })

  -- the frame goes on with these values
  pub going : (s' : Shared) (j : ℕ) (locals : List (Option Value)) (stack : List Value) → LeadsTo b f.place j
      → AreInSlotsBy (holds_in ty s'.heap b) locals t.locals → KeepsPairs locals → IsStackBy (holds_in ty s'.heap b) stack t.stack
      → AllByRecursion (IsThereInSlot program s'.heap) locals → AllByRecursion (IsThere program s'.heap) stack
      → SharedFits ty program s' → Grows s.heap s'.heap
      → Fine ty program s f b (goes s' (record { method = f.method; place = j; locals = locals; stack = stack }))
  unfolding Fine
  going s' j locals stack l p m q a d w n = record {
    method = refl;
    fits = onward ty program turn.flowing s'.heap f c b insn k t j locals stack turn.here turn.entered turn.after l p m q;
    there = record { locals = a; stack = d };
    shared = w;
    grows = n;
  }

  -- the stack alone changes
  pub stacked : (j : ℕ) (stack : List Value) → LeadsTo b f.place j → k.locals ≡ t.locals → IsStackBy (holds_in ty s.heap b) stack t.stack
      → AllByRecursion (IsThere program s.heap) stack
      → Fine ty program s f b (goes s (record { method = f.method; place = j; locals = f.locals; stack = stack }))
  stacked j stack l e q d =
      going s j f.locals stack l (subst (λ x. AreInSlotsBy (holds_in ty s.heap b) f.locals x) e turn.locals) turn.pairs q (turn.there).locals d
      turn.shared (same_heap s.heap)

-- the state that an instruction leaves which moves operands
pub with_stack_is : (k t : TypeState) (o : Option (List VerificationType)) → with_stack k o ≡ Some t → (o ≡ Some t.stack) × (k.locals ≡ t.locals)
with_stack_is k t None e = absurd (none_some e)
with_stack_is k t (Some stack) e =
    let q = same_Some (record k { stack = stack }) t e in (ap (λ (x : TypeState). Some x.stack) q, ap (λ (x : TypeState). x.locals) q)

pub each_drop : {X : Type 0} (P : X → Type 0) (n : ℕ) (xs : List X) → AllByRecursion P xs → AllByRecursion P (drop n xs)
each_drop P zero xs h = h
each_drop P (suc n) [] h = h
each_drop P (suc n) (x ∷ xs) h = each_drop P n xs h.1

-- ---- what reads and writes the stack alone

-- the values that an effect gives are there
unfoldable pub EffectThere : (Value → Type 0) → Effect → Type 0
EffectThere P (gives taken results) = AllByRecursion P results
EffectThere P (effects.raises c) = ⊤
EffectThere P unfit = ⊤

effect_goes : {ty : HoldingTyping} {program : Program} {s : Shared} {f : Frame} {c : Linked} {b : Body} {insn : Insn} {k t : TypeState}
    → Turn ty program s f c b insn k t → (e : Effect) → FallsThrough insn → k.locals ≡ t.locals → LeavesBy (holds_in ty s.heap b) t.stack f.stack e
    → EffectThere (IsThere program s.heap) e → Fine ty program s f b (by_effect e s f)
unfolding Fine EffectThere
effect_goes {program = program} {s = s} {f = f} turn (gives taken results) h l p q =
    stacked turn (f.place + 1) (results ++ drop taken f.stack) (falls turn h) l p
    (all_both (IsThere program s.heap) results (drop taken f.stack) q
    (each_drop (IsThere program s.heap) taken f.stack (turn.there).stack))
effect_goes turn (effects.raises c) h l p q = tt
effect_goes turn unfit h l p q = tt

module _ {ty : HoldingTyping} {program : Program} {s : Shared} {f : Frame} {c : Linked} {b : Body} {insn : Insn} {k t : TypeState}
    (turn : Turn ty program s f c b insn k t) where
  -- the instruction moves operands by the forms
  pub by_forms : (forms : List StackEffect) → step_of b.uses (returns_of b) insn ≡ kinds.moves forms
      → (moved_by b.max_stack forms k.stack ≡ Some t.stack) × (k.locals ≡ t.locals)
  by_forms forms e = with_stack_is k t (moved_by b.max_stack forms k.stack) (ap (λ x. apply (ground_of b f.place) x k) (sym e) ∙ applied turn)

  pub computes_fine : (op : ℕ) → step_of b.uses (returns_of b) insn ≡ kinds.moves (forms_at op) → FallsThrough insn
      → EffectThere (IsThere program s.heap) (effect op f.stack) → Fine ty program s f b (by_effect (effect op f.stack) s f)
  computes_fine op e h q =
      let m = by_forms (forms_at op) e in
      effect_goes turn (effect op f.stack) h m.1 (effects_fit (references_in ty s.heap b) b.max_stack op f.stack k.stack t.stack turn.stack m.0) q

  -- a value of a type is pushed
  pub pushes_fine : (v : Value) (h : VerificationType)
      → step_of b.uses (returns_of b) insn ≡ kinds.moves (form [] (kind h ∷ []) ∷ []) → FallsThrough insn → IsOfBy (holds_in ty s.heap b) v h
      → IsThere program s.heap v → Fine ty program s f b (goes_with s f (v ∷ f.stack))
  pushes_fine v h e l p q =
      let m = by_forms (form [] (kind h ∷ []) ∷ []) e in
      stacked turn (f.place + 1) (v ∷ f.stack) (falls turn l) m.1
      (leaf (references_in ty s.heap b) b.max_stack [] f.stack k.stack [] h v refl turn.stack p t.stack m.0) (q, (turn.there).stack)

  -- operands are taken, and a value of a type stands in their place
  pub turns_fine : (vs rest : List Value) (wanted : List Want) (h : VerificationType) (v : Value) (s' : Shared)
      → step_of b.uses (returns_of b) insn ≡ kinds.moves (form wanted (kind h ∷ []) ∷ []) → FallsThrough insn → f.stack ≡ vs ++ rest
      → length wanted ≡ length vs → IsOfBy (holds_in ty s'.heap b) v h
      → IsThere program s'.heap v → AllByRecursion (IsThere program s'.heap) rest
      → AllByRecursion (IsThereInSlot program s'.heap) f.locals → SharedFits ty program s' → Grows s.heap s'.heap
      → Fine ty program s f b (goes_with s' f (v ∷ rest))
  turns_fine vs rest wanted h v s' e l d n p q r a w g =
      let m = by_forms (form wanted (kind h ∷ []) ∷ []) e in
      going turn s' (f.place + 1) f.locals (v ∷ rest) (falls turn l)
      (subst (λ x. AreInSlotsBy (holds_in ty s'.heap b) f.locals x) m.1 (slots_on ty s.heap s'.heap g (made_in b) f.locals k.locals turn.locals)) turn.pairs
      (leaf (references_in ty s'.heap b) b.max_stack vs rest k.stack wanted h v n
      (subst (λ x. IsStackBy (holds_in ty s'.heap b) x k.stack) d (stack_on ty s.heap s'.heap g (made_in b) f.stack k.stack turn.stack)) p t.stack m.0)
      a (q, r) w g

  -- operands are taken, and nothing stands in their place
  pub takes_fine : (vs rest : List Value) (wanted : List Want) (j : ℕ) (s' : Shared)
      → step_of b.uses (returns_of b) insn ≡ kinds.moves (form wanted [] ∷ []) → LeadsTo b f.place j → f.stack ≡ vs ++ rest
      → length wanted ≡ length vs
      → AllByRecursion (IsThere program s'.heap) rest → AllByRecursion (IsThereInSlot program s'.heap) f.locals
      → SharedFits ty program s' → Grows s.heap s'.heap
      → Fine ty program s f b (goes s' (record { method = f.method; place = j; locals = f.locals; stack = rest }))
  takes_fine vs rest wanted j s' e l d n r a w g =
      let m = by_forms (form wanted [] ∷ []) e in
      going turn s' j f.locals rest l
      (subst (λ x. AreInSlotsBy (holds_in ty s'.heap b) f.locals x) m.1 (slots_on ty s.heap s'.heap g (made_in b) f.locals k.locals turn.locals)) turn.pairs
      (leaf_none (references_in ty s'.heap b) b.max_stack vs rest k.stack wanted n
      (subst (λ x. IsStackBy (holds_in ty s'.heap b) x k.stack) d (stack_on ty s.heap s'.heap g (made_in b) f.stack k.stack turn.stack)) t.stack m.0)
      a r w g

-- ---- local variables

-- an int in a slot becomes another
count_fits : (R : References) (locals : List (Option Value)) (ks : List VerificationType) (j : ℕ) (x : ℤ) → AreInSlotsBy R.holds locals ks
    → slice_index_or ks j verification.top ≡ verification.int → AreInSlotsBy R.holds (slice_set locals j (Some (int x))) ks
count_fits R [] [] j x p e = tt
count_fits R [] (h ∷ ks) j x p e = absurd p
count_fits R (l ∷ locals) [] j x p e = absurd p
count_fits R (l ∷ locals) (h ∷ ks) zero x p e = (subst (λ g. IsInSlotBy R.holds (Some (int x)) g) (sym e) tt, p.1)
count_fits R (l ∷ locals) (h ∷ ks) (suc j) x p e = (p.0, count_fits R locals ks j x p.1 e)

int_is : (h : VerificationType) → is_int h ≡ true → h ≡ verification.int
int_is verification.int e = refl
int_is h e = absurd (false≢true e)

module _ {ty : HoldingTyping} {program : Program} {s : Shared} {f : Frame} {c : Linked} {b : Body} {insn : Insn} {k t : TypeState}
    (turn : Turn ty program s f c b insn k t) where
  pub stepped : (step : Step) → step_of b.uses (returns_of b) insn ≡ step → apply (ground_of b f.place) step k ≡ Some t
  stepped step e = ap (λ x. apply (ground_of b f.place) x k) (sym e) ∙ applied turn

  pub loads_fine : (computational : ComputationalType) (slot : ℕ) (want : Want)
      → step_of b.uses (returns_of b) insn ≡ kinds.loads slot want → FallsThrough insn → (l : Option Value)
      → slice_index_or f.locals slot None ≡ l → Fine ty program s f b (by_load computational l s f)
  unfolding Fine
  loads_fine computational slot want e h None q = tt
  loads_fine computational slot want e h (Some v) q = by (is_of computational v)
    where
      top_kind : VerificationType
      top_kind = slice_index_or k.locals slot verification.top

      loaded_is : (limited b.max_stack (k.stack ++ top_kind ∷ []) ≡ Some t.stack) × (k.locals ≡ t.locals)
      loaded_is =
          with_stack_is k t (limited b.max_stack (k.stack ++ top_kind ∷ []))
          (guard_some (accepts want top_kind) (with_stack k (limited b.max_stack (k.stack ++ top_kind ∷ []))) t
          (stepped (kinds.loads slot want) e)).1

      value_is : IsOfBy (holds_in ty s.heap b) v top_kind
      value_is = from_slot (references_in ty s.heap b) v top_kind
          (subst (λ l. IsInSlotBy (holds_in ty s.heap b) l top_kind) q (read_fits (references_in ty s.heap b) f.locals k.locals slot turn.locals))

      stack_is : k.stack ++ top_kind ∷ [] ≡ t.stack
      stack_is = same_Some (k.stack ++ top_kind ∷ []) t.stack (guard_some _ (Some (k.stack ++ top_kind ∷ [])) t.stack loaded_is.0).1

      by : (x : Bool) → Fine ty program s f b (cond x (goes_with s f (v ∷ f.stack)) gets_stuck)
      by false = tt
      by true =
          stacked turn (f.place + 1) (v ∷ f.stack) (falls turn h) loaded_is.1
          (subst (λ l. IsStackBy (holds_in ty s.heap b) (v ∷ f.stack) l) stack_is (pushed (references_in ty s.heap b) v f.stack top_kind k.stack value_is turn.stack))
          (subst (λ l. IsThereInSlot program s.heap l) q (read_there program s.heap f.locals slot (turn.there).locals), (turn.there).stack)

  pub counts_fine : (slot : ℕ) (by : ℤ) → step_of b.uses (returns_of b) insn ≡ kinds.counts slot → FallsThrough insn
      → (l : Option Value) → slice_index_or f.locals slot None ≡ l → Fine ty program s f b (by_count slot by l s f)
  unfolding Fine
  counts_fine slot n e h None q = tt
  counts_fine slot n e h (Some (int x)) q =
      let p = guard_some (is_int (slice_index_or k.locals slot verification.top)) (with_stack k (limited b.max_stack k.stack)) t (stepped (kinds.counts slot) e) in
      let w = with_stack_is k t (limited b.max_stack k.stack) p.1 in
      let same : k.stack ≡ t.stack = same_Some k.stack t.stack (guard_some _ (Some k.stack) t.stack w.0).1 in
      going turn s (f.place + 1) _ f.stack (falls turn h)
      (subst (λ l. AreInSlotsBy (holds_in ty s.heap b) (slice_set f.locals slot (Some (int (int_wrapping_add w32 x n)))) l) w.1
      (count_fits (references_in ty s.heap b) f.locals k.locals slot (int_wrapping_add w32 x n) turn.locals (int_is _ p.0)))
      (count_pairs f.locals slot (int_wrapping_add w32 x n) x turn.pairs q)
      (subst (λ l. IsStackBy (holds_in ty s.heap b) f.stack l) same turn.stack) (set_there program s.heap f.locals slot _ (turn.there).locals tt)
      (turn.there).stack turn.shared (same_heap s.heap)
  counts_fine slot n e h (Some v) q = tt

  -- a long goes into two local variables
  pub stores_fine : (computational : ComputationalType) (slot : ℕ) (want : Want)
      → ((v : Value) → is_of computational v ≡ true → is_pair v ≡ true → slot + 1 < length f.locals)
      → step_of b.uses (returns_of b) insn ≡ kinds.stores slot want → FallsThrough insn → (stack : List Value) → f.stack ≡ stack
      → Fine ty program s f b (by_store computational slot stack s f)
  unfolding Fine
  stores_fine computational slot want room e h [] q = tt
  stores_fine computational slot want room e h (v ∷ stack) q = by (is_of computational v) refl
    where
      top : Top (references_in ty s.heap b) v stack k.stack
      top = top_of (references_in ty s.heap b) v stack k.stack (subst (λ x. IsStackBy (holds_in ty s.heap b) x k.stack) q turn.stack)

      last_is : kinds.last k.stack ≡ top.kind
      last_is = ap (λ x. slice_index_or x 0 verification.top) (ap (kinds.upper 1) top.parts ∙ upper_is top.low (top.kind ∷ []) 1 refl)

      below_stack : kinds.below 1 k.stack ≡ top.low
      below_stack = ap (kinds.below 1) top.parts ∙ below_is top.low (top.kind ∷ []) 1 refl

      put : TypeState
      put = record { locals = kinds.put_local slot (kinds.last k.stack) k.locals; stack = k.stack }

      stored : (accepts want (kinds.last k.stack) ≡ true) × (with_stack put (limited b.max_stack (kinds.below 1 k.stack)) ≡ Some t)
      stored = guard_some (accepts want (kinds.last k.stack)) (with_stack put (limited b.max_stack (kinds.below 1 k.stack))) t (stepped (kinds.stores slot want) e)

      left : (limited b.max_stack (kinds.below 1 k.stack) ≡ Some t.stack) × (put.locals ≡ t.locals)
      left = with_stack_is put t (limited b.max_stack (kinds.below 1 k.stack)) stored.1

      locals_are : kinds.put_local slot top.kind k.locals ≡ t.locals
      locals_are = ap (λ x. kinds.put_local slot x k.locals) (sym last_is) ∙ left.1

      stack_is : top.low ≡ t.stack
      stack_is = sym below_stack ∙ same_Some (kinds.below 1 k.stack) t.stack (guard_some _ (Some (kinds.below 1 k.stack)) t.stack left.0).1

      there : AllByRecursion (IsThere program s.heap) (v ∷ stack)
      there = subst (AllByRecursion (IsThere program s.heap)) q (turn.there).stack

      by : (x : Bool) → is_of computational v ≡ x → Fine ty program s f b
          (cond x (goes s (record {
            method = f.method;
            place = f.place + 1;
            locals = put_local slot v f.locals;
            stack = stack;
          })) gets_stuck)
      by false o = tt
      by true o = going turn s (f.place + 1) (put_local slot v f.locals) stack (falls turn h)
          (subst (λ x. AreInSlotsBy (holds_in ty s.heap b) (put_local slot v f.locals) x) locals_are
          (put_fits (references_in ty s.heap b) f.locals k.locals slot v top.kind turn.locals top.is
          (pair_as_type (references_in ty s.heap b) want v top.kind top.is (subst (λ x. accepts want x ≡ true) last_is stored.0))))
          (put_pairs f.locals slot v turn.pairs (room v o))
          (subst (λ x. IsStackBy (holds_in ty s.heap b) stack x) stack_is top.below)
          (put_there program s.heap f.locals slot v (turn.there).locals there.0) there.1 turn.shared (same_heap s.heap)
