-- Each turn keeps a world fitting: calls and returns.
use Rattle.std.proofs.Common.{◌≡◌, ℕ, ◌-◌, Bool, true, false, cond, List, [], ◌∷◌, ◌++◌, length, map, replicate, reverse, suc, Option, Some}
use Rattle.std.proofs.Common.{None, refl, sym, ◌∙◌, ap, subst, arith, append_assoc, length-append}
use Rattle.std.proofs.lemmas.Option.{slice_get_within, same_Some}
use Rattle.std.specs.Prelude.{IsTrue, slice_get, option_and_then}
use Rattle.std.proofs.lemmas.List.{reverse-append, length-reverse, length-map}
use Rattle.std.specs.List.{AllByRecursion}
use Rattle.std.proofs.lemmas.Bool.{and_parts, false≢true}
use Rattle.jc_bytes.specs.Descriptor.{FieldType, Double, Float, Long, Object, Array}
use Rattle.jc_bytes.proofs.OptionLaws.{none_some}
use Rattle.jc_bytes.proofs.EachLaws.{all_both, all_behind}
use Rattle.jc_bytes.proofs.DecoderLaws.{guard_some}
use Rattle.jc_methods.specs.declared.insn.Insn.{Insn}
use Rattle.jc_methods.specs.declared.body.Body.{Body}
use Rattle.jc_methods.specs.DescriptorTypes.{method_type_in}
use Rattle.jc_methods.specs.EntryState.{is_static, spread_one, spread, in_locals, held_of, this_of, entry_of as first_state}
use Rattle.jc_methods.specs.VerificationTypes.{VerificationType, TypeState}
use Rattle.jc_methods.specs.VerificationTypes as verification
use Rattle.jc_programs.specs.declared.program.Program.{Program}
use Rattle.jc_programs.specs.declared.program.Linked.{Linked}
use Rattle.jc_programs.specs.declared.run_end.Entry.{Entry}
use Rattle.jc_programs.specs.Members.{class_at, body_of}
use Rattle.jc_kinds_after.specs.Wants.{accepts, accepts_all}
use Rattle.jc_kinds_after.specs.Step.{upper}
use Rattle.jc_kinds_after.specs.Step as kinds
use Rattle.jc_kinds_after.specs.After.{want_of, call_form, step_of, returns_of}
use Rattle.jc_kinds.specs.States.{state_of}
use Rattle.jc_machine_model.specs.Methods.{is_init_name}
use Rattle.jc_machine_model.specs.Profile.{has_constant}
use Rattle.jc_machine_model.specs.Programs.{IsProgram, IsProgramBody}
use Rattle.jc_machine_model.specs.Values.{Value, int, long, is_pair, ComputationalType, is_of, computational_type}
use Rattle.jc_machine_model.specs.Heap.{HeapObject}
use Rattle.jc_machine_model.specs.World.{Frame, Shared}
use Rattle.jc_machine_model.specs.Results.{leaves, gets_stuck}
use Rattle.jc_machine_model.specs.Statics.{is_of_type}
use Rattle.jc_machine_model.specs.Calls.{Arguments, argument_before, taken_for, spread_value, spread_values, locals_for, by_call, returned_as, by_return}
use Rattle.jc_machine_model.specs.Step.{named_init, is_init_method, new_frame}
use Rattle.jc_machine_model.specs.Fits.{made_in, nothing_made, IsOfBy, AreOfBy, AreInSlotsBy, IsStackBy, IsThere, IsThereInSlot, FitsTopBy, StandsAtCall, parameter_count}
use Rattle.jc_machine_model.proofs.BeginLaws.{each_replicate}
use Rattle.jc_machine_model.proofs.PairLaws.{begin_pairs}
use Rattle.jc_kinds.specs.Flows.{EachBy}
use Rattle.jc_machine_laws.specs.Typings.{TakesBy, IsFlowing}
use Rattle.jc_machine_laws.proofs.TypedLaws.{References, HoldingTyping, held_in, holds_in, references_in}
use Rattle.jc_machine_laws.proofs.LocalLaws.{slots_append, slots_length, all_top}
use Rattle.jc_machine_laws.proofs.OnwardLaws.{whole_body, slots_pass, stack_passes, there_by}
use Rattle.jc_machine_laws.proofs.StackLaws.{reverse_map, upper_is, tops_of}
use Rattle.jc_machine_laws.proofs.StepLaws.{Turn, Fine, ReturnFits}
use Rattle.jc_machine_laws.proofs.StaticLaws.{kind_anywhere, stored_kind, stored_there, form_fits, top_kept}

-- ---- arguments

-- a value of a type in its slots
value_slots : (R : References) (type : FieldType) (v : Value) → is_of_type type v ≡ true → IsOfBy R.holds v (held_of type)
    → AreInSlotsBy R.holds (spread_value v) (spread_one (held_of type))
value_slots R Float v e p = absurd p
value_slots R Double v e p = absurd p
value_slots R Long (long x) e p = (tt, (tt, tt))
value_slots R Long v e p = absurd p
value_slots R (Object name) (int x) e p = absurd (false≢true e)
value_slots R (Object name) (long x) e p = absurd (false≢true e)
value_slots R (Object name) v e p = (p, tt)
value_slots R (Array component) (int x) e p = absurd (false≢true e)
value_slots R (Array component) (long x) e p = absurd (false≢true e)
value_slots R (Array component) v e p = (p, tt)
value_slots R type (int x) e p = (tt, tt)
value_slots R type v e p = absurd p

-- values that are of types, the top one first, in two parts
are_parts : (R : References) (a b : List Value) (x y : List VerificationType) → length a ≡ length x → AreOfBy R.holds (a ++ b) (x ++ y)
    → AreOfBy R.holds a x × AreOfBy R.holds b y
are_parts R [] b [] y n p = (tt, p)
are_parts R [] b (h ∷ x) y n p = absurd (let e = n in omega (arith, e))
are_parts R (v ∷ a) b [] y n p = absurd (let e = n in omega (arith, e))
are_parts R (v ∷ a) b (h ∷ x) y n p = let r = are_parts R a b x y (let e = n in omega (arith, e)) p.1 in ((p.0, r.0), r.1)

-- what a call takes from the stack
record Taken (R : References) (program : Program) (heap : List HeapObject) (types : List FieldType) (stack : List Value) (a : Arguments) : Type 0 where
  on_top : List Value
  parts : stack ≡ on_top ++ a.rest
  count : length on_top ≡ length types
  fits : IsStackBy R.holds on_top (map held_of types) → AreInSlotsBy R.holds (spread_values a.values) (spread (map held_of types))
  there : AllByRecursion (IsThere program heap) stack → AllByRecursion (IsThere program heap) a.values

taken_is : (R : References) (program : Program) (heap : List HeapObject) (types : List FieldType) (stack : List Value) (a : Arguments)
    → taken_for types stack ≡ Some a → Taken R program heap types stack a
taken_is R program heap [] stack a e =
    subst (Taken R program heap [] stack) (same_Some _ a e) (record { on_top = []; parts = refl; count = refl; fits = λ p. tt; there = λ p. tt })
taken_is R program heap (type ∷ types) stack a e = by (taken_for types stack) refl (λ r q. taken_is R program heap types stack r q) e
  where
    one : (r : Arguments) → Taken R program heap types stack r → (w : List Value) → r.rest ≡ w
        → elim w [
          | [] ↦ None
          | v ∷ rest ↦ cond (is_of_type type v)
              (Some (record { values = v ∷ r.values; rest = rest })) None
        ] ≡ Some a → Taken R program heap (type ∷ types) stack a
    one r t [] g q = absurd (none_some q)
    one r t (v ∷ rest) g q =
        let p = guard_some (is_of_type type v) (Some (record { values = v ∷ r.values; rest = rest })) a q in
        let n = t.count in
        let m = length-append t.on_top (v ∷ []) in
        let d : stack ≡ t.on_top ++ v ∷ rest = t.parts ∙ ap (λ l. t.on_top ++ l) g in
        subst (Taken R program heap (type ∷ types) stack) (same_Some _ a p.1) (record {
          on_top = t.on_top ++ v ∷ [];
          parts = d ∙ sym (append_assoc t.on_top (v ∷ []) rest);
          count = grind (arith, n, m);
          fits = λ w. slotted t.fits p.0 w;
          there = λ h. ((all_behind (IsThere program heap) t.on_top (v ∷ rest) (subst (AllByRecursion (IsThere program heap)) d h)).0, t.there h);
        })
      where
        slotted : (IsStackBy R.holds t.on_top (map held_of types) → AreInSlotsBy R.holds (spread_values r.values) (spread (map held_of types)))
            → is_of_type type v ≡ true → IsStackBy R.holds (t.on_top ++ v ∷ []) (map held_of (type ∷ types))
            → AreInSlotsBy R.holds (spread_value v ++ spread_values r.values) (spread_one (held_of type) ++ spread (map held_of types))
        slotted others o w =
            let n = t.count ∙ sym (length-map types held_of) ∙ sym (length-reverse (map held_of types)) in
            let both = are_parts R t.on_top (v ∷ []) (reverse (map held_of types)) (held_of type ∷ []) n
            (subst (AreOfBy R.holds (t.on_top ++ v ∷ [])) (reverse-append (held_of type ∷ []) (map held_of types)) w) in
            slots_append R (spread_value v) (spread_values r.values) (spread_one (held_of type)) (spread (map held_of types))
            (value_slots R type v o both.1.0) (others both.0)

    by : (o : Option Arguments) → taken_for types stack ≡ o
        → ((r : Arguments) → taken_for types stack ≡ Some r → Taken R program heap types stack r) → argument_before type o ≡ Some a
        → Taken R program heap (type ∷ types) stack a
    by None q again e = absurd (none_some e)
    by (Some r) q again e = one r (again r q) r.rest refl e

arguments_fit : (R : References) (most : ℕ) (values : List Value) (types : List FieldType)
    → AreInSlotsBy R.holds (spread_values values) (spread (map held_of types))
    → AreInSlotsBy R.holds (locals_for most values) (in_locals most (map held_of types))
arguments_fit R most values types p =
    let a = spread_values values in
    let x = spread (map held_of types) in
    subst (λ n. AreInSlotsBy R.holds (a ++ replicate (most - n) None) (x ++ replicate (most - length x) verification.top)) (sym (slots_length R a x p))
    (slots_append R a (replicate (most - length x) None) x (replicate (most - length x) verification.top) p (all_top R (most - length x)))

-- the values of the types of a descriptor are so in another body too
values_anywhere : (ty : HoldingTyping) (heap : List HeapObject) (made others : ℕ → List ℕ) (values : List Value) (types : List FieldType)
    → AreOfBy (ty.typing.holds heap made) values (map held_of types) → AreOfBy (ty.typing.holds heap others) values (map held_of types)
values_anywhere ty heap made others [] [] p = tt
values_anywhere ty heap made others [] (type ∷ types) p = absurd p
values_anywhere ty heap made others (v ∷ values) [] p = absurd p
values_anywhere ty heap made others (v ∷ values) (type ∷ types) p =
    (kind_anywhere ty heap made others type v p.0, values_anywhere ty heap made others values types p.1)

stack_anywhere : (ty : HoldingTyping) (heap : List HeapObject) (made others : ℕ → List ℕ) (stack : List Value) (types : List FieldType)
    → IsStackBy (ty.typing.holds heap made) stack (map held_of types) → IsStackBy (ty.typing.holds heap others) stack (map held_of types)
stack_anywhere ty heap made others stack types p =
    subst (AreOfBy (ty.typing.holds heap others) stack) (sym (reverse_map held_of types))
    (values_anywhere ty heap made others stack (reverse types) (subst (AreOfBy (ty.typing.holds heap made) stack) (reverse_map held_of types) p))

-- the types of operands that are kept pass, where they are of their kinds
kept_pass : (S : VerificationType → VerificationType → Type 0) (types : List FieldType) (kinds : List VerificationType)
    → accepts_all (map want_of types) kinds ≡ true
    → ((i : ℕ) (type : FieldType) (h : VerificationType) → slice_get types i ≡ Some type → slice_get kinds i ≡ Some h
    → accepts (want_of type) h ≡ true → S h (held_of type))
    → EachBy S kinds (map held_of types)
kept_pass S [] [] a t = tt
kept_pass S [] (h ∷ kinds) a t = absurd (false≢true a)
kept_pass S (type ∷ types) [] a t = absurd (false≢true a)
kept_pass S (type ∷ types) (h ∷ kinds) a t =
    let p = and_parts (accepts (want_of type) h) (accepts_all (map want_of types) kinds) a in
    (t 0 type h refl refl p.0, kept_pass S types kinds p.1 (λ i y g e w z. t (suc i) y g e w z))

spread_there : (program : Program) (heap : List HeapObject) (values : List Value) → AllByRecursion (IsThere program heap) values
    → AllByRecursion (IsThereInSlot program heap) (spread_values values)
spread_there program heap [] p = tt
spread_there program heap (v ∷ values) p =
    all_both (IsThereInSlot program heap) (spread_value v) (spread_values values) (by (is_pair v)) (spread_there program heap values p.1)
  where
    by : (z : Bool) → AllByRecursion (IsThereInSlot program heap) (cond z (Some v ∷ None ∷ []) (Some v ∷ []))
    by true = (p.0, (tt, tt))
    by false = (p.0, tt)

-- ---- methods

pub init_is : (program : Program) (method : Entry) (d : Linked) (body : Body) → class_at program method.class ≡ Some d
    → slice_get d.bodies method.method ≡ Some body → is_init_method program method ≡ is_init_name body.name
init_is program method d body e g = ap (λ o. named_init (option_and_then (λ (x : Linked). slice_get x.bodies method.method) o)) e ∙ ap named_init g

pub body_is : (program : Program) (method : Entry) (d : Linked) (body : Body) → class_at program method.class ≡ Some d
    → slice_get d.bodies method.method ≡ Some body → body_of program method ≡ Some body
body_is program method d body e g = ap (λ o. option_and_then (λ (x : Linked). slice_get x.bodies method.method) o) e ∙ g

-- the frame with which a method begins
enters : (ty : HoldingTyping) (program : Program) → IsFlowing ty.typing ty.passes program → (heap : List HeapObject)
    (callee : Entry) (d : Linked) (body : Body) (values : List Value) → IsProgramBody program.names body
    → class_at program callee.class ≡ Some d → slice_get d.bodies callee.method ≡ Some body → IsTrue (ty.typing.enters d body)
    → AreInSlotsBy (holds_in ty heap body) (spread_values values) (spread (map held_of (method_type_in body.desc).parameters))
    → FitsTopBy ty.typing.enters (ty.typing.holds heap) program (new_frame callee (locals_for body.max_locals values))
enters ty program flowing heap callee d body values w e g h p =
    let flows = flowing.flows callee d body (record { class_is = e; body_is = g }) h in
    let s = there_by ty.passes (first_state body) (state_of program.names body 0) flows.entry in
    let static = (and_parts (is_static body.flags) _ (flowing.plain d body h)).0 in
    let q = subst (λ z. AreInSlotsBy (holds_in ty heap body) (locals_for body.max_locals values)
    (in_locals body.max_locals ((cond z [] (this_of body.owner body.name ∷ [])) ++ map held_of
    (method_type_in body.desc).parameters))) (sym static)
    (arguments_fit (references_in ty heap body) body.max_locals values (method_type_in body.desc).parameters p) in
    record {
      state = s.0;
      stands = record { linked = d; class_is = e; body = body; body_is = g; entered = h; within = w.well_made.of_any_size.code.some; state_is = s.1 };
      locals = slots_pass ty flowing.fits heap (made_in body) (locals_for body.max_locals values) (first_state body).locals s.0.locals q s.2.locals;
      pairs = begin_pairs body.max_locals values;
      stack = stack_passes ty flowing.fits heap (made_in body) [] [] s.0.stack tt s.2.stack;
    }

module _ {ty : HoldingTyping} {program : Program} {s : Shared} {f : Frame} {c : Linked} {b : Body} {insn : Insn} {k t : TypeState}
    (turn : Turn ty program s f c b insn k t) where
  pub calls_fine : (callee : Entry) (d : Linked) (body : Body) → IsProgram program → class_at program callee.class ≡ Some d
      → slice_get d.bodies callee.method ≡ Some body → IsTrue (ty.typing.enters d body)
      → is_init_name b.name ≡ false → (is_init_name body.name ≡ true → (f.place ≡ 0) × (f.method.class ≡ callee.class) × (has_constant c ≡ false))
      → StandsAtCall program f callee
      → step_of b.uses (returns_of b) insn ≡ kinds.moves (call_form (method_type_in body.desc) ∷ [])
      → TakesBy ty.passes (method_type_in body.desc).parameters k.stack
      → Fine ty program s f b (by_call callee body.max_locals (taken_for (method_type_in body.desc).parameters f.stack) f)
  unfolding Fine
  calls_fine callee d body p e g h n i w step takes = by (taken_for (method_type_in body.desc).parameters f.stack) refl
    where
      -- the types of the arguments
      args : List VerificationType
      args = upper (length (map want_of (method_type_in body.desc).parameters)) k.stack

      accepted : accepts_all (map want_of (method_type_in body.desc).parameters) args ≡ true
      accepted = form_fits turn (call_form (method_type_in body.desc)) step

      same_upper : upper (length (method_type_in body.desc).parameters) k.stack ≡ args
      same_upper = ap (λ n. upper n k.stack) (sym (length-map (method_type_in body.desc).parameters want_of))

      passes : EachBy ty.passes args (map held_of (method_type_in body.desc).parameters)
      passes = kept_pass ty.passes (method_type_in body.desc).parameters args accepted
          (λ i type h q r a. takes i type h q (ap (λ (l : List VerificationType). slice_get l i) same_upper ∙ r) a)

      by : (o : Option Arguments) → taken_for (method_type_in body.desc).parameters f.stack ≡ o → Fine ty program s f b (by_call callee body.max_locals o f)
      by None q = tt
      by (Some a) q =
          let r = taken_is (references_in ty s.heap body) program s.heap (method_type_in body.desc).parameters f.stack a q in
          let R = references_in ty s.heap b in
          let o = tops_of R r.on_top a.rest k.stack (subst (λ x. IsStackBy (holds_in ty s.heap b) x k.stack) r.parts turn.stack) in
          let count = o.count ∙ r.count in
          let args_are : o.kinds ≡ args = sym (upper_is o.low o.kinds (length (map want_of (method_type_in body.desc).parameters))
          (count ∙ sym (length-map (method_type_in body.desc).parameters want_of))) ∙ ap (upper (length (map want_of (method_type_in body.desc).parameters))) (sym o.parts) in
          let held = stack_passes ty (turn.flowing).fits s.heap (made_in b) r.on_top args (map held_of (method_type_in body.desc).parameters)
          (subst (IsStackBy (holds_in ty s.heap b) r.on_top) args_are o.are) passes in
          let there = stack_anywhere ty s.heap (made_in b) (made_in body) r.on_top (method_type_in body.desc).parameters held in
          record {
            method = refl;
            waits = record {
              state = k;
              stands =
                  record {
                    linked = c;
                    class_is = (turn.here).class_is;
                    body = b;
                    body_is = (turn.here).body_is;
                    entered = turn.entered;
                    within = slice_get_within b.code f.place insn (turn.here).insn_is;
                    state_is = (turn.here).state_is;
                  };
              at_call = record { insn = w.insn; stands = w.stands; calls = w.calls };
              no_init = init_is program f.method c b (turn.here).class_is (turn.here).body_is ∙ n;
              below_init = λ z. let q = i (sym (init_is program callee d body e g) ∙ z) in (q.0, q.1);
              below_member = λ z. (i (sym (init_is program callee d body e g) ∙ z)).2;
              locals = turn.locals;
              pairs = turn.pairs;
              left = o.low;
              given = o.kinds;
              parts = o.parts;
              count = count ∙ sym (ap parameter_count (body_is program callee d body e g));
              stack = o.below;
            };
            enters = enters ty program turn.flowing s.heap callee d body a.values (whole_body program (new_frame callee []) d body p e g) e g h
                (r.fits there);
            there =
                record {
                  locals = (turn.there).locals;
                  stack = all_behind (IsThere program s.heap) r.on_top a.rest
                      (subst (AllByRecursion (IsThere program s.heap)) r.parts (turn.there).stack);
                };
            new_there = record {
              locals = all_both (IsThereInSlot program s.heap) (spread_values a.values) (replicate (body.max_locals - length (spread_values a.values)) None)
                  (spread_there program s.heap a.values (r.there (turn.there).stack))
                  (each_replicate (IsThereInSlot program s.heap) (body.max_locals - length (spread_values a.values)) None tt);
              stack = tt;
            };
          }

  pub returns_fine : (computational : ComputationalType) (type : FieldType) → returns_of b ≡ Some type
      → computational_type type ≡ Some computational → accepts_all (want_of type ∷ []) (upper 1 k.stack) ≡ true → TakesBy ty.passes (type ∷ []) k.stack
      → (stack : List Value) → f.stack ≡ stack → Fine ty program s f b (by_return computational (Some type) stack)
  unfolding Fine ReturnFits
  returns_fine computational type e g a takes [] q = tt
  returns_fine computational type e g a takes (v ∷ stack) q = by (is_of computational v) refl
    where
      there : AllByRecursion (IsThere program s.heap) (v ∷ stack)
      there = subst (AllByRecursion (IsThere program s.heap)) q (turn.there).stack

      fits : ReturnFits ty program s.heap (Some type) (Some (returned_as (Some type) v))
      fits = (
        stored_kind (held_in ty s.heap nothing_made) type v
            (kind_anywhere ty s.heap (made_in b) nothing_made type v (top_kept turn type v stack q takes a)),
        stored_there program s.heap type v there.0,
      )

      by : (z : Bool) → is_of computational v ≡ z → Fine ty program s f b (cond z (leaves (Some (returned_as (Some type) v))) gets_stuck)
      by false o = tt
      by true o = subst (λ x. ReturnFits ty program s.heap x (Some (returned_as (Some type) v))) (sym e) fits

  pub leaves_fine : returns_of b ≡ None → Fine ty program s f b (leaves None)
  unfolding Fine ReturnFits
  leaves_fine e = subst (λ x. ReturnFits ty program s.heap x None) (sym e) tt
