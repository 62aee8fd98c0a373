-- Each turn keeps a world fitting: a frame that waited goes on behind its call.
use Rattle.std.proofs.Common.{◌≡◌, inl, ℕ, ◌+◌, is_some, Bool, true, false, ◌&&◌, cond, List, [], ◌∷◌, ◌++◌, length, map, Option}
use Rattle.std.proofs.Common.{Some, None, nat_eq, refl, sym, ◌∙◌, ap, subst, append-nil}
use Rattle.std.proofs.lemmas.Bool.{eqb-true, and_parts}
use Rattle.std.proofs.lemmas.Option.{slice_get_within, same_Some}
use Rattle.std.proofs.lemmas.Slice.Eq.{bytes_eq-Decides}
use Rattle.std.specs.Prelude.{slice_get, option_and_then, bytes_eq}
use Rattle.jc_bytes.specs.Descriptor.{FieldType}
use Rattle.jc_bytes.proofs.OptionLaws.{none_some, some_there, map_some, then_some}
use Rattle.jc_methods.specs.declared.insn.Insn.{Insn}
use Rattle.jc_methods.specs.declared.body.Body.{Body}
use Rattle.jc_methods.specs.declared.body.Use.{Use}
use Rattle.jc_methods.specs.declared.body.What.{What}
use Rattle.jc_methods.specs.DescriptorTypes.{method_type_in}
use Rattle.jc_methods.specs.EntryState.{held_of}
use Rattle.jc_methods.specs.Flow.{FallsThrough}
use Rattle.jc_methods.specs.VerificationTypes.{VerificationType, TypeState}
use Rattle.jc_methods.specs.WellMade.{what_used}
use Rattle.jc_methods.specs.declared.insn.Insn.TheVariants as insns
use Rattle.jc_methods.specs.declared.body.What.TheVariants as whats
use Rattle.jc_methods.specs.Opcode as opcode
use Rattle.jc_programs.specs.declared.program.Program.{Program}
use Rattle.jc_programs.specs.declared.program.Linked.{Linked}
use Rattle.jc_programs.specs.declared.run_end.Entry.{Entry}
use Rattle.jc_programs.specs.Members.{class_named, class_at, method_named}
use Rattle.jc_kinds_after.specs.Step.{below, upper, given_of, moved_by, apply}
use Rattle.jc_kinds_after.specs.After.{want_of, result_of, call_form, member_step, step_of, returns_of, ground_of, after_of}
use Rattle.jc_kinds_after.specs.Step as kinds
use Rattle.jc_machine_model.specs.Programs.{IsProgram}
use Rattle.jc_machine_model.specs.Values.{Value}
use Rattle.jc_machine_model.specs.Heap.{HeapObject}
use Rattle.jc_machine_model.specs.World.{Frame}
use Rattle.jc_machine_model.specs.Profile.{Location, method_in, callee_named}
use Rattle.jc_machine_model.specs.Step.{LocatedInsn, located_in_body, located_in_class, located, given_back}
use Rattle.jc_machine_model.specs.Fits.{made_in, nothing_made, AreInSlotsBy, IsStackBy, FitsTopBy, named_by, called_by, parameter_count, FitsWaitingBy}
use Rattle.jc_machine_model.proofs.BeginLaws.{no_body, map_length}
use Rattle.jc_machine_laws.specs.Typings.{IsFlowing}
use Rattle.jc_machine_laws.proofs.TypedLaws.{HoldingTyping, holds_in, references_in}
use Rattle.jc_machine_laws.proofs.OnwardLaws.{Here, here_by, after_there, onward}
use Rattle.jc_machine_laws.proofs.StackLaws.{below_is, pushed, one_moved}
use Rattle.jc_machine_laws.proofs.StepLaws.{ReturnFits, with_stack_is}
use Rattle.jc_machine_laws.proofs.CallLaws.{body_is}
use Rattle.jc_machine_laws.proofs.StaticLaws.{position_found, kind_anywhere}

-- ---- where a frame stands

abbrev pub at_of : Frame → Linked → Body → Location
at_of f c b = record { class = f.method.class; linked = c; body = b; place = f.place }

pub located_is : (program : Program) (f : Frame) (c : Linked) (b : Body) (insn : Insn) (k : TypeState) → Here program f c b insn k
    → located program f.method f.place ≡ Some (record { at = at_of f c b; insn = insn })
located_is program f c b insn k h =
    ap (option_and_then (λ (d : Linked). located_in_class f.method.class f.place d (slice_get d.bodies f.method.method))) h.class_is
    ∙ ap (located_in_class f.method.class f.place c) h.body_is
    ∙ ap (located_in_body f.method.class c f.place b) h.insn_is

-- the state after an instruction of a body that was checked
pub after_is : (program : Program) (f : Frame) (c : Linked) (b : Body) (insn : Insn) (k : TypeState) → Here program f c b insn k
    → (t : TypeState) × (after_of b f.place k ≡ Some t)
after_is program f c b insn k h =
    some_there (after_of b f.place k)
    (subst (λ o. is_some o ≡ true) (after_there program f c b insn k h)
    (h.whole.checked.after f.place (slice_get_within b.code f.place insn h.insn_is)))

pub applied_at : (program : Program) (f : Frame) (c : Linked) (b : Body) (insn : Insn) (k t : TypeState) → Here program f c b insn k
    → after_of b f.place k ≡ Some t → apply (ground_of b f.place) (step_of b.uses (returns_of b) insn) k ≡ Some t
unfolding after_of
applied_at program f c b insn k t h e = ap (option_and_then (λ i. apply (ground_of b f.place) (step_of b.uses (returns_of b) i) k)) (sym h.insn_is) ∙ e

-- ---- the method that a call names

pub record Named (program : Program) (name desc : List ℕ) (callee : Entry) : Type 0 where
  pub linked : Linked
  pub class_is : class_at program callee.class ≡ Some linked
  pub body : Body
  pub body_is : slice_get linked.bodies callee.method ≡ Some body
  pub name_is : body.name ≡ name
  pub desc_is : body.desc ≡ desc

pub named_is : (program : Program) (class name desc : List ℕ) (callee : Entry) → callee_named program class name desc ≡ Some callee
    → Named program name desc callee
named_is program class name desc callee e =
    let p = then_some (λ (j : ℕ). option_and_then (method_in name desc j) (class_at program j)) (class_named program class) callee e in
    let q = then_some (method_in name desc p.0) (class_at program p.0) callee p.2 in
    let r = map_some (λ (j : ℕ). record { class = p.0; method = j }) (method_named q.0.bodies name desc) callee q.2 in
    let x = position_found (λ (g : Body). bytes_eq g.name name && bytes_eq g.desc desc) q.0.bodies r.0 no_body r.1 in
    let y = and_parts (bytes_eq x.0.name name) (bytes_eq x.0.desc desc) x.2 in
    subst (Named program name desc) r.2 (record {
      linked = q.0;
      class_is = q.1;
      body = x.0;
      body_is = x.1;
      name_is = (bytes_eq-Decides x.0.name name).0 y.0;
      desc_is = (bytes_eq-Decides x.0.desc desc).0 y.1;
    })

-- the descriptor is that of the method
pub desc_of : (program : Program) (name desc : List ℕ) (callee : Entry) (d : Linked) (body : Body) → Named program name desc callee
    → class_at program callee.class ≡ Some d → slice_get d.bodies callee.method ≡ Some body → body.desc ≡ desc
desc_of program name desc callee d body n e g =
    let o = sym (body_is program callee d body e g) ∙ body_is program callee n.linked n.body n.class_is n.body_is in
    ap (λ (x : Body). x.desc) (same_Some body n.body o) ∙ n.desc_is

-- an instruction that calls the method
pub record CallsIt (program : Program) (uses : List Use) (insn : Insn) (callee : Entry) : Type 0 where
  pub class : List ℕ
  pub name : List ℕ
  pub desc : List ℕ
  pub named : callee_named program class name desc ≡ Some callee
  pub step : (r : Option FieldType) → step_of uses r insn ≡ kinds.moves (call_form (method_type_in desc) ∷ [])
  pub falls : FallsThrough insn

pub calls_it : (program : Program) (at : Location) (insn : Insn) (callee : Entry) → called_by program at insn ≡ Some callee
    → CallsIt program at.body.uses insn callee
calls_it program at (insns.Member op place) callee e = by (nat_eq op opcode.invokestatic) refl (what_used at.body.uses place) refl e
  where
    by : (z : Bool) → nat_eq op opcode.invokestatic ≡ z → (o : Option What) → what_used at.body.uses place ≡ o
        → cond z (named_by program o) None ≡ Some callee → CallsIt program at.body.uses (insns.Member op place) callee
    by true q (Some (whats.Method class name desc)) g e = record {
      class = class;
      name = name;
      desc = desc;
      named = e;
      step = λ r. ap (member_step op) g ∙ ap (λ n. member_step n (Some (whats.Method class name desc))) (eqb-true op 184 q);
      falls = inl refl;
    }
    by true q o g e = absurd (none_some e)
    by false q o g e = absurd (none_some e)
calls_it program at insn callee e = absurd (none_some e)

-- ---- the frame that goes on

-- what comes back stands in the place of the arguments
stack_back : (ty : HoldingTyping) (program : Program) (heap : List HeapObject) (b : Body) (type : Option FieldType) (v : Option Value)
    (stack : List Value) (low : List VerificationType) → ReturnFits ty program heap type v → IsStackBy (holds_in ty heap b) stack low
    → (operands : List VerificationType)
    → IsStackBy (holds_in ty heap b) (given_back v (record { method = record { class = 0; method = 0 }; place = 0; locals = []; stack = stack })).stack
    (low ++ map (given_of operands) (result_of type))
unfolding ReturnFits
stack_back ty program heap b None None stack low p q operands = subst (IsStackBy (holds_in ty heap b) stack) (sym (append-nil low)) q
stack_back ty program heap b (Some type) (Some v) stack low p q operands =
    pushed (references_in ty heap b) v stack (held_of type) low (kind_anywhere ty heap nothing_made (made_in b) type v p.0) q
stack_back ty program heap b None (Some v) stack low p q operands = absurd p
stack_back ty program heap b (Some type) None stack low p q operands = absurd p

pub back_fits : (ty : HoldingTyping) (program : Program) (heap : List HeapObject) (callee : Entry) (d : Linked) (body : Body) (f : Frame)
    (v : Option Value) → IsFlowing ty.typing ty.passes program → IsProgram program → class_at program callee.class ≡ Some d
    → slice_get d.bodies callee.method ≡ Some body → FitsWaitingBy ty.typing.enters (ty.typing.holds heap) program f callee
    → ReturnFits ty program heap (returns_of body) v → FitsTopBy ty.typing.enters (ty.typing.holds heap) program (given_back v f)
back_fits ty program heap callee d body f v flowing p e g w r = by v r
  where
    h : (insn : Insn) × Here program f w.stands.linked w.stands.body insn w.state
    h = here_by ty program flowing heap f w.state p w.stands

    after : (t : TypeState) × (after_of w.stands.body f.place w.state ≡ Some t)
    after = after_is program f w.stands.linked w.stands.body h.0 w.state h.1

    stood_there : w.at_call.insn ≡ record { at = at_of f w.stands.linked w.stands.body; insn = h.0 }
    stood_there = same_Some _ _ (sym w.at_call.stands ∙ located_is program f w.stands.linked w.stands.body h.0 w.state h.1)

    call : CallsIt program w.stands.body.uses h.0 callee
    call =
        calls_it program (at_of f w.stands.linked w.stands.body) h.0 callee
        (subst (λ (x : LocatedInsn). called_by program x.at x.insn ≡ Some callee) stood_there w.at_call.calls)

    type_is : body.desc ≡ call.desc
    type_is = desc_of program call.name call.desc callee d body (named_is program call.class call.name call.desc callee call.named) e g

    moved_to : (moved_by w.stands.body.max_stack (call_form (method_type_in call.desc) ∷ []) w.state.stack ≡ Some after.0.stack)
        × (w.state.locals ≡ after.0.locals)
    moved_to = with_stack_is w.state after.0 (moved_by w.stands.body.max_stack (call_form (method_type_in call.desc) ∷ []) w.state.stack)
        (ap (λ x. apply (ground_of w.stands.body f.place) x w.state) (sym (call.step (returns_of w.stands.body)))
        ∙ applied_at program f w.stands.linked w.stands.body h.0 w.state after.0 h.1 after.1)

    count : length w.given ≡ length (map want_of (method_type_in call.desc).parameters)
    count =
        w.count ∙ ap parameter_count (body_is program callee d body e g) ∙ ap (λ x. length (method_type_in x).parameters) type_is
        ∙ sym (map_length want_of (method_type_in call.desc).parameters)

    low_is : below (length (map want_of (method_type_in call.desc).parameters)) w.state.stack ≡ w.left
    low_is =
        ap (below (length (map want_of (method_type_in call.desc).parameters))) w.parts
        ∙ below_is w.left w.given (length (map want_of (method_type_in call.desc).parameters)) count

    stack_is : w.left ++ map (given_of (upper (length (map want_of (method_type_in call.desc).parameters)) w.state.stack))
        (result_of (method_type_in call.desc).returns) ≡ after.0.stack
    stack_is =
        ap (λ l. l ++ map (given_of (upper (length (map want_of (method_type_in call.desc).parameters)) w.state.stack))
        (result_of (method_type_in call.desc).returns)) (sym low_is)
        ∙ one_moved w.stands.body.max_stack (call_form (method_type_in call.desc)) w.state.stack after.0.stack moved_to.0

    goes_on : (stack : List Value)
        → IsStackBy (holds_in ty heap w.stands.body) stack
        (w.left ++ map (given_of (upper (length (map want_of (method_type_in call.desc).parameters)) w.state.stack))
        (result_of (method_type_in call.desc).returns))
        → FitsTopBy ty.typing.enters (ty.typing.holds heap) program (record { method = f.method; place = f.place + 1; locals = f.locals; stack = stack })
    goes_on stack q = onward ty program flowing heap f w.stands.linked w.stands.body h.0 w.state after.0 (f.place + 1) f.locals stack h.1
        w.stands.entered after.1
        (inl (record { insn = h.0; stands = h.1.insn_is; falls = call.falls }, refl))
        (subst (AreInSlotsBy (holds_in ty heap w.stands.body) f.locals) moved_to.1 w.locals) w.pairs (subst (IsStackBy (holds_in ty heap w.stands.body) stack) stack_is q)

    typed : (x : Option Value) → ReturnFits ty program heap (returns_of body) x → ReturnFits ty program heap (method_type_in call.desc).returns x
    typed x q = subst (λ y. ReturnFits ty program heap (method_type_in y).returns x) type_is q

    by : (x : Option Value) → ReturnFits ty program heap (returns_of body) x
        → FitsTopBy ty.typing.enters (ty.typing.holds heap) program (given_back x f)
    by None q =
        goes_on f.stack (stack_back ty program heap w.stands.body (method_type_in call.desc).returns None f.stack w.left (typed None q) w.stack
        (upper (length (map want_of (method_type_in call.desc).parameters)) w.state.stack))
    by (Some x) q =
        goes_on (x ∷ f.stack) (stack_back ty program heap w.stands.body (method_type_in call.desc).returns (Some x) f.stack w.left
        (typed (Some x) q) w.stack (upper (length (map want_of (method_type_in call.desc).parameters)) w.state.stack))
