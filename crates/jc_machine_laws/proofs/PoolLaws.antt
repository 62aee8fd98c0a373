-- Each turn keeps a world fitting: each instruction that names something in the pool.
use Rattle.std.proofs.Common.{◌≡◌, ◌≢◌, inl, ℕ, Bool, true, false, not, ◌&&◌, ◌||◌, cond, List, [], ◌∷◌, Option, Some, None}
use Rattle.std.proofs.Common.{is_some, codes, nat_eq, refl, sym, ◌∙◌, ap, subst}
use Rattle.std.proofs.lemmas.Bool.{eqb-true, and_parts, not-true, false≢true}
use Rattle.std.specs.Prelude.{slice_get, option_and_then, bytes_eq}
use Rattle.std.proofs.lemmas.Option.{same_Some}
use Rattle.jc_bytes.specs.Descriptor.{FieldType, Object}
use Rattle.jc_bytes.proofs.OptionLaws.{none_some, then_some}
use Rattle.jc_bytes.proofs.DecoderLaws.{guard_some}
use Rattle.jc_bytes.proofs.TextEqualLaws.{bytes_are}
use Rattle.jc_methods.specs.declared.body.Body.{Body}
use Rattle.jc_methods.specs.declared.body.What.{What}
use Rattle.jc_methods.specs.DescriptorTypes.{types_from, rest_from, field_type_in, method_type_in}
use Rattle.jc_methods.specs.VerificationTypes.{TypeState}
use Rattle.jc_methods.specs.ProbeMembers.{init_type, data_name, data_type, constant_type, fetch_type, fetch_name, runtime_class}
use Rattle.jc_methods.specs.WellMade.{what_used}
use Rattle.jc_methods.specs.declared.insn.Insn.TheVariants as insns
use Rattle.jc_methods.specs.declared.body.What.TheVariants as whats
use Rattle.jc_methods.specs.VerificationTypes as verification
use Rattle.jc_methods.specs.Opcode as opcode
use Rattle.jc_programs.specs.declared.program.Program.{Program}
use Rattle.jc_programs.specs.declared.program.Linked.{Linked}
use Rattle.jc_programs.specs.declared.program.ProbeInit.{ProbeInit}
use Rattle.jc_programs.specs.declared.run_end.Entry.{Entry}
use Rattle.jc_programs.specs.declared.run_end.Thrown.{Thrown}
use Rattle.jc_programs.specs.Members.{class_named, class_at, static_named}
use Rattle.jc_kinds_after.specs.Step.{kind}
use Rattle.jc_kinds_after.specs.Table.{form}
use Rattle.jc_kinds_after.specs.After.{call_form, class_in, new_class, field_step, method_step, member_step, computed_step, constant_step, class_step, step_of, returns_of}
use Rattle.jc_kinds_after.specs.declared.want.Want.TheVariants as wants
use Rattle.jc_kinds_after.specs.Step as kinds
use Rattle.jc_machine_model.specs.Methods.{is_init_name, declares_init, is_enterable}
use Rattle.jc_machine_model.specs.Programs.{IsProgram}
use Rattle.jc_machine_model.specs.Values.{int, long, print_stream, probes, text, computational_type}
use Rattle.jc_machine_model.specs.World.{Frame, Shared}
use Rattle.jc_machine_model.specs.Operations.{Printed, an_int_line, a_long_line, a_boolean_line, an_empty_line, pushes, gets, puts, casts, outside}
use Rattle.jc_machine_model.specs.Profile.{Location, in_init, init_of, has_constant, is_bootstrapped, given_of, given_by, given_in, computed_operation, constant_operation, long_operation, may_name_field, field_operation, declared_field, linked_field, is_print_stream, field_named}
use Rattle.jc_machine_model.specs.Profile.{may_name_method, entered_if, body_entered, class_entered, method_entered, callee_named}
use Rattle.jc_machine_model.specs.Profile.{is_fetch, init_call, static_call, printed_by, print_operation, virtual_call, made_class}
use Rattle.jc_machine_model.specs.Profile.{build_operation, special_call, call_named, member_operation, make_operation, begins_with_array, cast_operation, class_operation}
use Rattle.jc_machine_model.specs.Perform.{perform}
use Rattle.jc_machine_model.specs.Fits.{made_in, HasProbes, HasText, IsThere, named_by, StandsAtCall}
use Rattle.jc_machine_laws.specs.Typings.{kept_types, TakesBy}
use Rattle.jc_machine_laws.proofs.TypedLaws.{HoldingTyping}
use Rattle.jc_machine_laws.proofs.StepLaws.{Turn, Fine, pushes_fine}
use Rattle.jc_machine_laws.proofs.ElementLaws.{makes_fine, builds_fine, printed_wants, prints_fine, fetches_fine, casts_fine}
use Rattle.jc_machine_laws.proofs.StaticLaws.{gets_fine, puts_fine}
use Rattle.jc_machine_laws.proofs.CallLaws.{calls_fine}
use Rattle.jc_machine_laws.proofs.ReturnLaws.{at_of, located_is, named_is, desc_of}

some_there : {X : Type 0} (x : X) → Some x ≡ None → ⊥
some_there x e = cc

-- ---- probe arrays

-- the class has the probes for which its `$jacocoInit` asks
init_there : (at : Location) (init : ProbeInit) → init_of at ≡ Some init → at.linked.probes ≡ Some init
init_there at init e = by (in_init at && bytes_eq at.body.desc init_type) e
  where
    by : (z : Bool) → cond z at.linked.probes None ≡ Some init → at.linked.probes ≡ Some init
    by true e = e
    by false e = absurd (none_some e)

text_there : (at : Location) → is_some (init_of at) ≡ true → at.linked.probes ≢ None
text_there at e = by (init_of at) refl e
  where
    by : (o : Option ProbeInit) → init_of at ≡ o → is_some o ≡ true → at.linked.probes ≢ None
    by None q e = absurd (false≢true e)
    by (Some init) q e = λ g. some_there init (sym (init_there at init q) ∙ g)

-- What a constant gives are the probes of the class, and its descriptor is that of the constant.
given_there : (at : Location) (name desc : List ℕ) (bootstrap : ℕ) (init : ProbeInit) → given_in at (Some (whats.Computed name desc bootstrap)) ≡ Some init
    → (at.linked.probes ≡ Some init) × (desc ≡ constant_type)
given_there at name desc bootstrap init e = by (given_of at.linked) refl e
  where
    of_class : (z : Bool) (given : ProbeInit) → cond z at.linked.probes None ≡ Some given → at.linked.probes ≡ Some given
    of_class true given q = q
    of_class false given q = absurd (none_some q)

    by : (o : Option ProbeInit) → given_of at.linked ≡ o → given_by o name desc bootstrap ≡ Some init → (at.linked.probes ≡ Some init) × (desc ≡ constant_type)
    by None q e = absurd (none_some e)
    by (Some given) q e =
        let p = guard_some (is_bootstrapped given.bootstrap bootstrap && (bytes_eq name data_name && bytes_eq desc constant_type)) (Some given) init e in
        let r = and_parts (is_bootstrapped given.bootstrap bootstrap) (bytes_eq name data_name && bytes_eq desc constant_type) p.0 in (
          of_class (has_constant at.linked && declares_init at.linked) given q ∙ p.1,
          bytes_are desc constant_type (and_parts (bytes_eq name data_name) (bytes_eq desc constant_type) r.1).1,
        )

-- ---- descriptors

-- the constant is of any class
constant_is : computed_step (field_type_in constant_type) ≡ kinds.moves (form [] (kind (verification.object (codes "java/lang/Object")) ∷ []) ∷ [])
unfolding types_from
constant_is = refl

stream_type : field_type_in (codes "Ljava/io/PrintStream;") ≡ Some (Object (codes "java/io/PrintStream"))
unfolding types_from
stream_type = refl

pub asked : method_step opcode.invokestatic [] (method_type_in fetch_type) ≡ kinds.moves
    (form (wants.Long ∷ wants.Reference ∷ wants.Int ∷ []) (kind (verification.object data_type) ∷ []) ∷ [])
unfolding types_from rest_from
asked = refl

pub built_by : method_step opcode.invokespecial (codes "<init>") (method_type_in (codes "()V")) ≡ kinds.builds (form [] [])
unfolding types_from rest_from
built_by = refl

pub printed_step : (name desc : List ℕ) (printed : Printed) → printed_by desc ≡ Some printed
    → method_step opcode.invokevirtual name (method_type_in desc) ≡ kinds.moves (form (printed_wants printed) [] ∷ [])
unfolding types_from rest_from printed_wants
printed_step name desc printed e =
    by (bytes_eq desc (codes "(I)V")) refl (bytes_eq desc (codes "(J)V")) refl (bytes_eq desc (codes "(Z)V")) refl
    (bytes_eq desc (codes "()V")) refl e
  where
    to : (d : List ℕ) (x : Printed) → bytes_eq desc d ≡ true → Some x ≡ Some printed
        → method_step opcode.invokevirtual name (method_type_in d) ≡ kinds.moves (form (printed_wants x) [] ∷ [])
        → method_step opcode.invokevirtual name (method_type_in desc) ≡ kinds.moves (form (printed_wants printed) [] ∷ [])
    to d x q g h =
        ap (λ y. method_step opcode.invokevirtual name (method_type_in y)) (bytes_are desc d q) ∙ h
        ∙ ap (λ y. kinds.moves (form (printed_wants y) [] ∷ [])) (same_Some x printed g)

    by : (b1 : Bool) → bytes_eq desc (codes "(I)V") ≡ b1 → (b2 : Bool) → bytes_eq desc (codes "(J)V") ≡ b2 → (b3 : Bool)
        → bytes_eq desc (codes "(Z)V") ≡ b3 → (b4 : Bool) → bytes_eq desc (codes "()V") ≡ b4
        → cond b1 (Some an_int_line) (cond b2 (Some a_long_line)
        (cond b3 (Some a_boolean_line) (cond b4 (Some an_empty_line) None))) ≡ Some printed
        → method_step opcode.invokevirtual name (method_type_in desc) ≡ kinds.moves (form (printed_wants printed) [] ∷ [])
    by true p b2 q b3 r b4 u e = to (codes "(I)V") an_int_line p e refl
    by false p true q b3 r b4 u e = to (codes "(J)V") a_long_line q e refl
    by false p false q true r b4 u e = to (codes "(Z)V") a_boolean_line r e refl
    by false p false q false r true u e = to (codes "()V") an_empty_line u e refl
    by false p false q false r false u e = absurd (none_some e)

module _ {ty : HoldingTyping} {program : Program} {s : Shared} {f : Frame} {c : Linked} {b : Body} {k t : TypeState} where
  -- ---- constants

  pub constant_at : (place : ℕ) → Turn ty program s f c b (insns.Constant place) k t
      → Fine ty program s f b (perform (constant_operation (at_of f c b) (what_used b.uses place)) s f)
  unfolding perform Fine
  constant_at place turn = by (what_used b.uses place) refl
    where
      there : is_some (init_of (at_of f c b)) ≡ true → IsThere program s.heap (text f.method.class)
      there e = subst HasText (sym (turn.here).class_is) (text_there (at_of f c b) e)

      texts : (z : Bool) → is_some (init_of (at_of f c b)) ≡ z → what_used b.uses place ≡ Some whats.Text
          → Fine ty program s f b (perform (cond z (pushes (text f.method.class)) outside) s f)
      texts false e q = tt
      texts true e q = pushes_fine turn (text f.method.class) (verification.object (codes "java/lang/String")) (ap constant_step q) (inl refl)
          (ty.holding.of_text s.heap (made_in b) f.method.class) (there e)

      by : (o : Option What) → what_used b.uses place ≡ o → Fine ty program s f b (perform (constant_operation (at_of f c b) o) s f)
      by (Some (whats.Int value)) q = pushes_fine turn (int value) verification.int (ap constant_step q) (inl refl) tt tt
      by (Some whats.Text) q = texts (is_some (init_of (at_of f c b))) refl q
      by (Some (whats.Computed name desc bootstrap)) q = given (given_in (at_of f c b) (Some (whats.Computed name desc bootstrap))) refl
        where
          given : (o : Option ProbeInit) → given_in (at_of f c b) (Some (whats.Computed name desc bootstrap)) ≡ o
              → Fine ty program s f b (perform (computed_operation (at_of f c b) o) s f)
          given None e = tt
          given (Some init) e = in_place (nat_eq f.place 0)
            where
              is : (c.probes ≡ Some init) × (desc ≡ constant_type)
              is = given_there (at_of f c b) name desc bootstrap init e

              in_place : (z : Bool) → Fine ty program s f b (perform (cond z (pushes (probes f.method.class init.count)) outside) s f)
              in_place false = tt
              in_place true =
                  pushes_fine turn (probes f.method.class init.count) (verification.object (codes "java/lang/Object"))
                  (ap constant_step q ∙ ap (λ d. computed_step (field_type_in d)) is.1 ∙ constant_is) (inl refl)
                  (ty.holding.of_constant s.heap (made_in b) f.method.class init.count)
                  (subst (λ x. HasProbes x init.count) (sym (turn.here).class_is) (init, is.0, refl))
      by o q = tt

  pub constant2_at : (place : ℕ) → Turn ty program s f c b (insns.Constant2 place) k t → Fine ty program s f b (perform (long_operation (what_used b.uses place)) s f)
  unfolding perform Fine
  constant2_at place turn = by (what_used b.uses place) refl
    where
      by : (o : Option What) → what_used b.uses place ≡ o → Fine ty program s f b (perform (long_operation o) s f)
      by (Some (whats.Long value)) q = pushes_fine turn (long value) verification.long (ap constant_step q) (inl refl) tt tt
      by o q = tt

  -- ---- throwables

  pub of_class_at : (op place : ℕ) → Turn ty program s f c b (insns.OfClass op place) k t
      → Fine ty program s f b (perform (class_operation op (at_of f c b) (what_used b.uses place)) s f)
  unfolding perform Fine
  of_class_at op place turn = by (what_used b.uses place) refl
    where
      -- the class of the objects that the instruction makes
      made_is : (name : List ℕ) → what_used b.uses place ≡ Some (whats.Class name) → made_in b f.place ≡ name
      made_is name q = ap (new_class b.uses) (turn.here).insn_is ∙ ap class_in q

      make : (name : List ℕ) → what_used b.uses place ≡ Some (whats.Class name) → nat_eq op opcode.new ≡ true → (o : Option Thrown)
          → made_class name ≡ o → Fine ty program s f b (perform (make_operation o) s f)
      make name q e None g = tt
      make name q e (Some d) g =
          makes_fine turn d (ap made_class (made_is name q) ∙ g)
          (ap (class_step op) q ∙ ap (λ n. class_step n (Some (whats.Class name))) (eqb-true op opcode.new e)) (inl refl)

      cast : (name : List ℕ) → what_used b.uses place ≡ Some (whats.Class name) → nat_eq op opcode.checkcast ≡ true → (z : Bool)
          → (nat_eq f.place 1 && (bytes_eq name data_type && begins_with_array (at_of f c b) b.code)) ≡ z
          → Fine ty program s f b (perform (cond z (casts f.method.class) outside) s f)
      cast name q e false g = tt
      cast name q e true g =
          let p = and_parts (nat_eq f.place 1) (bytes_eq name data_type && begins_with_array (at_of f c b) b.code) g in
          let array : name ≡ data_type = bytes_are name data_type (and_parts (bytes_eq name data_type) (begins_with_array (at_of f c b) b.code) p.1).0 in
          casts_fine turn f.method.class
          (ap (class_step op) (q ∙ ap (λ x. Some (whats.Class x)) array)
          ∙ ap (λ n. class_step n (Some (whats.Class data_type))) (eqb-true op opcode.checkcast e)) (inl refl) f.stack refl

      named : (name : List ℕ) → what_used b.uses place ≡ Some (whats.Class name) → (z : Bool) → nat_eq op opcode.new ≡ z
          → (y : Bool) → nat_eq op opcode.checkcast ≡ y
          → Fine ty program s f b (perform (cond z (make_operation (made_class name)) (cond y (cast_operation (at_of f c b) name) outside)) s f)
      named name q true e y g = make name q e (made_class name) refl
      named name q false e true g =
          cast name q g (nat_eq f.place 1 && (bytes_eq name data_type && begins_with_array (at_of f c b) b.code)) refl
      named name q false e false g = tt

      by : (o : Option What) → what_used b.uses place ≡ o → Fine ty program s f b (perform (class_operation op (at_of f c b) o) s f)
      by (Some (whats.Class name)) q = named name q (nat_eq op opcode.new) refl (nat_eq op opcode.checkcast) refl
      by o q = tt

  module _ (op place : ℕ) (class name desc : List ℕ) (turn : Turn ty program s f c b (insns.Member op place) k t) where
    -- ---- static fields

    module _ (used : what_used b.uses place ≡ Some (whats.Field class name desc)) where
      field_is : (n : ℕ) → nat_eq op n ≡ true → step_of b.uses (returns_of b) (insns.Member op place) ≡ member_step n (Some (whats.Field class name desc))
      field_is n e = ap (member_step op) used ∙ ap (λ m. member_step m (Some (whats.Field class name desc))) (eqb-true op n e)

      typed_field : (j field : ℕ) (d : Linked) → class_at program j ≡ Some d → static_named d.statics name desc ≡ Some field
          → (o : Option FieldType) → field_type_in desc ≡ o
          → TakesBy ty.passes (kept_types (field_operation op (record { class = j; field = field }) o)) k.stack
          → Fine ty program s f b (perform (field_operation op (record { class = j; field = field }) o) s f)
      unfolding perform Fine
      typed_field j field d e g None q takes = tt
      typed_field j field d e g (Some type) q takes =
          by (is_some (computational_type type)) refl (nat_eq op opcode.getstatic) refl (nat_eq op opcode.putstatic) refl takes
        where
          by : (x : Bool) → is_some (computational_type type) ≡ x → (y : Bool) → nat_eq op opcode.getstatic ≡ y → (z : Bool) → nat_eq op opcode.putstatic ≡ z
              → TakesBy ty.passes (kept_types (cond (not x) outside
              (cond y (gets (record { class = j; field = field }) type)
              (cond z (puts (record { class = j; field = field }) type) outside)))) k.stack
              → Fine ty program s f b (perform (cond (not x) outside
              (cond y (gets (record { class = j; field = field }) type)
              (cond z (puts (record { class = j; field = field }) type) outside))) s f)
          by false o y p z r takes = tt
          by true o true p z r takes = gets_fine turn j field type d name desc (field_is opcode.getstatic p ∙ ap (field_step opcode.getstatic) q) (inl refl) e g q o
          by true o false p true r takes =
              puts_fine turn j field type d name desc
              (field_is opcode.putstatic r ∙ ap (field_step opcode.putstatic) q) (inl refl) e g q takes f.stack refl
          by true o false p false r takes = tt

      declared : (j : ℕ) (o : Option ℕ)
          → option_and_then (λ (d : Linked). static_named d.statics name desc) (class_at program j) ≡ o
          → TakesBy ty.passes (kept_types (declared_field op (at_of f c b) j name desc o)) k.stack
          → Fine ty program s f b (perform (declared_field op (at_of f c b) j name desc o) s f)
      unfolding perform Fine
      declared j None e takes = tt
      declared j (Some field) e takes = by (may_name_field (at_of f c b) j name) takes
        where
          d : (d : Linked) × (class_at program j ≡ Some d) × (static_named d.statics name desc ≡ Some field)
          d = then_some (λ (d : Linked). static_named d.statics name desc) (class_at program j) field e

          by : (z : Bool) → TakesBy ty.passes (kept_types (cond z (field_operation op (record { class = j; field = field }) (field_type_in desc)) outside)) k.stack
              → Fine ty program s f b (perform (cond z (field_operation op (record { class = j; field = field }) (field_type_in desc)) outside) s f)
          by true kept = typed_field j field d.0 d.1 d.2 (field_type_in desc) refl kept
          by false kept = tt

      linked : (o : Option ℕ) → TakesBy ty.passes (kept_types (linked_field op (at_of f c b) program name desc o)) k.stack
          → Fine ty program s f b (perform (linked_field op (at_of f c b) program name desc o) s f)
      unfolding perform Fine
      linked None takes = tt
      linked (Some j) takes = declared j (option_and_then (λ (d : Linked). static_named d.statics name desc) (class_at program j)) refl takes

      stream_is : is_print_stream op class name desc ≡ true
          → step_of b.uses (returns_of b) (insns.Member op place) ≡ kinds.moves
          (form [] (kind (verification.object (codes "java/io/PrintStream")) ∷ []) ∷ [])
      stream_is e =
          let p = and_parts (nat_eq op opcode.getstatic) _ e in
          let q = and_parts (bytes_eq class (codes "java/lang/System")) _ p.1 in
          let r = and_parts (bytes_eq name (codes "out")) (bytes_eq desc (codes "Ljava/io/PrintStream;")) q.1 in
          field_is opcode.getstatic p.0 ∙ ap (λ x. field_step opcode.getstatic (field_type_in x))
          (bytes_are desc (codes "Ljava/io/PrintStream;") r.1) ∙ ap (field_step opcode.getstatic) stream_type

      fields : TakesBy ty.passes (kept_types (field_named op (at_of f c b) program class name desc)) k.stack
          → Fine ty program s f b (perform (field_named op (at_of f c b) program class name desc) s f)
      unfolding perform Fine
      fields takes = by (is_print_stream op class name desc) refl takes
        where
          by : (z : Bool) → is_print_stream op class name desc ≡ z
              → TakesBy ty.passes (kept_types (cond z (pushes print_stream) (linked_field op (at_of f c b) program name desc (class_named program class)))) k.stack
              → Fine ty program s f b (perform (cond z (pushes print_stream)
              (linked_field op (at_of f c b) program name desc (class_named program class))) s f)
          by true e kept =
              pushes_fine turn print_stream (verification.object (codes "java/io/PrintStream")) (stream_is e) (inl refl)
              (ty.holding.stream s.heap (made_in b)) tt
          by false e kept = linked (class_named program class) kept

    -- ---- calls

    module _ (whole : IsProgram program) (used : what_used b.uses place ≡ Some (whats.Method class name desc)) where
      method_is : (n : ℕ) → nat_eq op n ≡ true → step_of b.uses (returns_of b) (insns.Member op place) ≡ member_step n (Some (whats.Method class name desc))
      method_is n e = ap (member_step op) used ∙ ap (λ m. member_step m (Some (whats.Method class name desc))) (eqb-true op n e)

      -- the first instruction of a method of its class calls `$jacocoInit`
      may_name : (callee : Entry) (body : Body) → may_name_method (at_of f c b) callee.class body.name ≡ true
          → is_init_name body.name ≡ true → (f.place ≡ 0) × (f.method.class ≡ callee.class) × (has_constant c ≡ false)
      may_name callee body e g =
          let p : (nat_eq f.place 0 && (nat_eq f.method.class callee.class && not (has_constant c))) ≡ true =
          ap (λ z. not z || (nat_eq f.place 0 && (nat_eq f.method.class callee.class && not (has_constant c)))) (sym g) ∙ e in
          let q = and_parts (nat_eq f.place 0) (nat_eq f.method.class callee.class && not (has_constant c)) p in
          let r = and_parts (nat_eq f.method.class callee.class) (not (has_constant c)) q.1 in
          (eqb-true f.place 0 q.0, eqb-true f.method.class callee.class r.0, not-true (has_constant c) r.1)

      at_call : (callee : Entry) → nat_eq op opcode.invokestatic ≡ true → callee_named program class name desc ≡ Some callee → StandsAtCall program f callee
      at_call callee e g = record {
        insn = record { at = at_of f c b; insn = insns.Member op place };
        stands = located_is program f c b (insns.Member op place) k turn.here;
        calls = ap (λ z. cond z (named_by program (what_used b.uses place)) None) e ∙ ap (named_by program) used ∙ g;
      }

      entered : nat_eq op opcode.invokestatic ≡ true → in_init (at_of f c b) ≡ false → (o : Option Entry)
          → callee_named program class name desc ≡ o → TakesBy ty.passes (kept_types (method_entered (at_of f c b) program o)) k.stack
          → Fine ty program s f b (perform (method_entered (at_of f c b) program o) s f)
      unfolding perform Fine
      entered e n None g takes = tt
      entered e n (Some callee) g takes = in_class (class_at program callee.class) refl takes
        where
          in_body : (d : Linked) → class_at program callee.class ≡ Some d → (body : Body)
              → slice_get d.bodies callee.method ≡ Some body → (z : Bool)
              → (is_enterable d body && may_name_method (at_of f c b) callee.class body.name) ≡ z
              → TakesBy ty.passes (kept_types (entered_if z callee body)) k.stack
              → Fine ty program s f b (perform (entered_if z callee body) s f)
          in_body d p body q false r kept = tt
          in_body d p body q true r kept =
              let y = and_parts (is_enterable d body) (may_name_method (at_of f c b) callee.class body.name) r in
              calls_fine turn callee d body whole p q ((turn.flowing).enterable d body y.0) n (may_name callee body y.1) (at_call callee e g)
              (method_is opcode.invokestatic e ∙ ap (λ x. kinds.moves (call_form (method_type_in x) ∷ []))
              (sym (desc_of program name desc callee d body (named_is program class name desc callee g) p q))) kept

          in_bodies : (d : Linked) → class_at program callee.class ≡ Some d → (o : Option Body)
              → slice_get d.bodies callee.method ≡ o → TakesBy ty.passes (kept_types (body_entered (at_of f c b) callee d o)) k.stack
              → Fine ty program s f b (perform (body_entered (at_of f c b) callee d o) s f)
          in_bodies d p None q kept = tt
          in_bodies d p (Some body) q kept =
              in_body d p body q (is_enterable d body && may_name_method (at_of f c b) callee.class body.name) refl kept

          in_class : (o : Option Linked) → class_at program callee.class ≡ o → TakesBy ty.passes (kept_types (class_entered (at_of f c b) callee o)) k.stack
              → Fine ty program s f b (perform (class_entered (at_of f c b) callee o) s f)
          in_class None p kept = tt
          in_class (Some d) p kept = in_bodies d p (slice_get d.bodies callee.method) refl kept

      asking : nat_eq op opcode.invokestatic ≡ true → (z : Bool) → is_fetch class name desc ≡ z → (o : Option ProbeInit)
          → init_of (at_of f c b) ≡ o → Fine ty program s f b (perform (init_call (at_of f c b) z o) s f)
      unfolding perform Fine
      asking e true g (Some init) i =
          let p = and_parts (bytes_eq class runtime_class) _ g in
          let q = and_parts (bytes_eq name fetch_name) (bytes_eq desc fetch_type) p.1 in
          fetches_fine turn f.method.class init
          (method_is opcode.invokestatic e
          ∙ ap (λ x. method_step opcode.invokestatic name (method_type_in x)) (bytes_are desc fetch_type q.1) ∙ asked) (inl refl)
          (subst (λ o. HasProbes o init.count) (sym (turn.here).class_is) (init, init_there (at_of f c b) init i, refl)) f.stack refl
      asking e true g None i = tt
      asking e false g o i = tt

      statics : nat_eq op opcode.invokestatic ≡ true → TakesBy ty.passes (kept_types (static_call (at_of f c b) program class name desc)) k.stack
          → Fine ty program s f b (perform (static_call (at_of f c b) program class name desc) s f)
      unfolding perform Fine
      statics e takes = by (in_init (at_of f c b)) refl takes
        where
          by : (z : Bool) → in_init (at_of f c b) ≡ z
              → TakesBy ty.passes (kept_types (cond z (init_call (at_of f c b) (is_fetch class name desc) (init_of (at_of f c b)))
              (method_entered (at_of f c b) program (callee_named program class name desc)))) k.stack
              → Fine ty program s f b (perform (cond z (init_call (at_of f c b) (is_fetch class name desc) (init_of (at_of f c b)))
              (method_entered (at_of f c b) program (callee_named program class name desc))) s f)
          by true n kept = asking e (is_fetch class name desc) refl (init_of (at_of f c b)) refl
          by false n kept = entered e n (callee_named program class name desc) refl kept

      virtuals : nat_eq op opcode.invokevirtual ≡ true → Fine ty program s f b (perform (virtual_call (at_of f c b) class name desc) s f)
      unfolding perform Fine
      virtuals e = by (not (in_init (at_of f c b)) && (bytes_eq class (codes "java/io/PrintStream") && bytes_eq name (codes "println")))
        where
          prints : (o : Option Printed) → printed_by desc ≡ o → Fine ty program s f b (perform (print_operation o) s f)
          prints None g = tt
          prints (Some printed) g = prints_fine turn printed (method_is opcode.invokevirtual e ∙ printed_step name desc printed g) (inl refl) f.stack refl

          by : (z : Bool) → Fine ty program s f b (perform (cond z (print_operation (printed_by desc)) outside) s f)
          by true = prints (printed_by desc) refl
          by false = tt

      specials : nat_eq op opcode.invokespecial ≡ true → Fine ty program s f b (perform (special_call (at_of f c b) class name desc) s f)
      unfolding perform Fine
      specials e = by (not (in_init (at_of f c b)) && (bytes_eq name (codes "<init>") && bytes_eq desc (codes "()V"))) refl
        where
          builds : (not (in_init (at_of f c b)) && (bytes_eq name (codes "<init>") && bytes_eq desc (codes "()V"))) ≡ true
              → (o : Option Thrown) → Fine ty program s f b (perform (build_operation o) s f)
          builds g None = tt
          builds g (Some d) =
              let p = and_parts (not (in_init (at_of f c b))) _ g in
              let q = and_parts (bytes_eq name (codes "<init>")) (bytes_eq desc (codes "()V")) p.1 in
              builds_fine turn d (method_is opcode.invokespecial e
              ∙ ap (λ x. method_step opcode.invokespecial x (method_type_in desc)) (bytes_are name (codes "<init>") q.0)
              ∙ ap (λ x. method_step opcode.invokespecial (codes "<init>") (method_type_in x))
              (bytes_are desc (codes "()V") q.1) ∙ built_by) (inl refl) f.stack refl

          by : (z : Bool) → (not (in_init (at_of f c b)) && (bytes_eq name (codes "<init>") && bytes_eq desc (codes "()V"))) ≡ z
              → Fine ty program s f b (perform (cond z (build_operation (made_class class)) outside) s f)
          by true g = builds g (made_class class)
          by false g = tt

      methods : TakesBy ty.passes (kept_types (call_named op (at_of f c b) program class name desc)) k.stack
          → Fine ty program s f b (perform (call_named op (at_of f c b) program class name desc) s f)
      unfolding perform Fine
      methods takes = by (nat_eq op opcode.invokestatic) refl (nat_eq op opcode.invokevirtual) refl (nat_eq op opcode.invokespecial) refl takes
        where
          by : (x : Bool) → nat_eq op opcode.invokestatic ≡ x → (y : Bool) → nat_eq op opcode.invokevirtual ≡ y → (z : Bool)
              → nat_eq op opcode.invokespecial ≡ z
              → TakesBy ty.passes (kept_types (cond x (static_call (at_of f c b) program class name desc)
              (cond y (virtual_call (at_of f c b) class name desc) (cond z (special_call (at_of f c b) class name desc) outside)))) k.stack
              → Fine ty program s f b (perform (cond x (static_call (at_of f c b) program class name desc)
              (cond y (virtual_call (at_of f c b) class name desc) (cond z (special_call (at_of f c b) class name desc) outside))) s f)
          by true p y q z r kept = statics p kept
          by false p true q z r kept = virtuals q
          by false p false q true r kept = specials r
          by false p false q false r kept = tt

  pub member_at : (op place : ℕ) → IsProgram program → Turn ty program s f c b (insns.Member op place) k t
      → TakesBy ty.passes (kept_types (member_operation op (at_of f c b) program (what_used b.uses place))) k.stack
      → Fine ty program s f b (perform (member_operation op (at_of f c b) program (what_used b.uses place)) s f)
  unfolding perform Fine
  member_at op place whole turn takes = by (what_used b.uses place) refl takes
    where
      by : (o : Option What) → what_used b.uses place ≡ o → TakesBy ty.passes (kept_types (member_operation op (at_of f c b) program o)) k.stack
          → Fine ty program s f b (perform (member_operation op (at_of f c b) program o) s f)
      by (Some (whats.Field class name desc)) q kept = fields op place class name desc turn q kept
      by (Some (whats.Method class name desc)) q kept = methods op place class name desc turn whole q kept
      by o q kept = tt
