-- References suit at each instruction of the method that is added to a class.
use Rattle.std.proofs.Common.{◌≡◌, ⊎_elim, ℕ, ℤ, zero, suc, ◌<◌, Bool, true, false, not, List, [], ◌∷◌, length, Option, Some, None, is_some, option_and_then, if◌then◌else◌, refl, sym, ◌∙◌, ap, subst, arith}
use Rattle.std.specs.Prelude.{Contains, slice_get, codes}
use Rattle.std.specs.Str.{bytes_eq}
use Rattle.std.proofs.lemmas.Option.{same_Some}
use Rattle.jc_bytes.specs.Descriptor.{FieldType, Array, Boolean}
use Rattle.jc_bytes.proofs.BooleanLaws.{which_in, none_in}
use Rattle.jc_bytes.proofs.TextEqualLaws.{same_bytes}
use Rattle.jc_methods.specs.DescriptorTypes.{field_type_in, method_type_in, types_from, rest_from}
use Rattle.jc_methods.specs.Opcode as opcode
use Rattle.jc_methods.specs.ProbeMembers.{data_name, data_type, init_name, init_type, bootstrap_type, runtime_class, fetch_name, fetch_type}
use Rattle.jc_methods.specs.VerificationTypes.{VerificationType, TypeState, object}
use Rattle.jc_methods.specs.declared.body.Body.{Body}
use Rattle.jc_methods.specs.declared.body.What.TheVariants as whats
use Rattle.jc_methods.specs.declared.insn.Insn.{Insn}
use Rattle.jc_methods.specs.declared.insn.Insn.TheVariants as insns
use Rattle.jc_methods.specs.declared.probe_members.Fetch.{Fetch}
use Rattle.jc_methods.specs.declared.probe_members.Fetch.TheVariants as fetches
use Rattle.jc_programs.specs.Members.{class_at, class_named, static_named}
use Rattle.jc_programs.specs.declared.program.Linked.{Linked}
use Rattle.jc_programs.specs.declared.program.ProbeInit.{ProbeInit}
use Rattle.jc_programs.specs.declared.program.Program.{Program}
use Rattle.jc_programs.specs.declared.run_end.Entry.{Entry}
use Rattle.jc_kinds.specs.States.{state_of}
use Rattle.jc_emit.specs.Added.{InitPlaces, push_count, init_code, bootstrap_code, end_place, IsInitBody, IsBootstrapBody, IsAddedBody}
use Rattle.jc_emit.proofs.InitLaws.{added_flows}
use Rattle.jc_machine_model.specs.Methods.{is_init_name}
use Rattle.jc_machine_model.specs.Operations.{FieldAt, Operation, pushes, gets, puts, fetches as fetches_array, returns, outside}
use Rattle.jc_machine_model.specs.Profile.{Location, in_init, init_of, what_at, long_operation, may_name_field, field_operation, declared_field, linked_field, is_print_stream, field_named, is_fetch, init_call, member_operation, operation_of, method_entered, callee_named}
use Rattle.jc_machine_model.specs.Step.{operation_at}
use Rattle.jc_machine_model.specs.Values.{Value, reference_type, computational_type}
use Rattle.jc_twin_simulation.proofs.FrameLaws.{location, located_is}
use Rattle.jc_refs_check.specs.Needs.{Need, needs_of}
use Rattle.jc_refs_check.specs.RefsOk.{is_taken, operand, OperandsSuit, IsSuited}
use Rattle.jc_refs_check.specs.Suits.{object_class, class_suits}
use Rattle.jc_refs_check.proofs.KnownLaws.{class_itself}
use Rattle.jc_refs_laws.proofs.AddedStateLaws.{array, string, init_asks, init_writes, init_returns, bootstrap_asks, bootstrap_returns}
use Rattle.jc_refs_laws.proofs.FlowLaws.{passes_flow}
use Rattle.jc_refs_laws.proofs.KeptFlowLaws.{entry_kept, branches_kept, no_handlers}
use Rattle.jc_refs_laws.proofs.NeedlessLaws.{constant_nothing, id_nothing}

data_type_is : field_type_in data_type ≡ Some (Array Boolean)
unfolding types_from
data_type_is = refl

init_gives : (method_type_in init_type).returns ≡ Some (Array Boolean)
unfolding types_from rest_from
init_gives = refl

bootstrap_gives : (method_type_in bootstrap_type).returns ≡ Some (Array Boolean)
unfolding types_from rest_from
bootstrap_gives = refl

-- a class suits itself, so an object of it is one that a value of its type may be
abbrev held_need : ℕ → List ℕ → Need
held_need above name = record { above = above; takes = λ class. class_suits class name; fresh = λ class. bytes_eq name object_class }

-- ---- what an operation needs is met by the operands

module _ (b : Body) (stack : List VerificationType) where
  abbrev Meets : Operation → Type 0
  Meets op = (n : Need) → Contains (needs_of op) n → is_taken b n (operand n.above stack) ≡ true

  free : (op : Operation) → needs_of op ≡ [] → Meets op
  free op none n c = absurd (none_in n (subst (λ l. Contains l n) none c))

  either : (t : Bool) (x y : Operation) → Meets x → Meets y → Meets (if t then x else y)
  either true x y h k = h
  either false x y h k = k

  -- an object of the class
  held : (op : Operation) (above : ℕ) (name : List ℕ) → needs_of op ≡ held_need above name ∷ [] → operand above stack ≡ object name → Meets op
  held op above name is there n c =
      ⊎_elim
      (λ same.
      subst (λ (x : Need). is_taken b x (operand x.above stack) ≡ true) same
      (ap (is_taken b (held_need above name)) there ∙ class_itself name))
      (λ more. absurd (none_in n more)) (which_in (held_need above name) ([]) n (subst (λ l. Contains l n) is c))

  -- ---- instructions of the added method

  module _ (r : Program) (at : Location) where
    -- a static field is read or written
    module _ (op : ℕ) (name desc : List ℕ) (access : (f : FieldAt) → Meets (field_operation op f (field_type_in desc))) where
      declared : (class : ℕ) (o : Option ℕ) → Meets (declared_field op at class name desc o)
      declared class None = free outside refl
      declared class (Some f) =
          either (may_name_field at class name) (field_operation op (record { class = class; field = f }) (field_type_in desc)) outside
          (access (record { class = class; field = f })) (free outside refl)

      linked : (o : Option ℕ) → Meets (linked_field op at r name desc o)
      linked None = free outside refl
      linked (Some class) = declared class (option_and_then (λ (c : Linked). static_named c.statics name desc) (class_at r class))

      named : (class : List ℕ) → Meets (field_named op at r class name desc)
      named class =
          either (is_print_stream op class name desc) (pushes Value.print_stream) (linked_field op at r name desc (class_named r class))
          (free (pushes Value.print_stream) refl) (linked (class_named r class))

    gets_any : (f : FieldAt) (o : Option FieldType) → Meets (field_operation opcode.getstatic f o)
    gets_any f None = free outside refl
    gets_any f (Some type) = either (not (is_some (computational_type type))) outside (gets f type) (free outside refl) (free (gets f type) refl)

    puts_array : operand 0 stack ≡ array → (f : FieldAt) → Meets (field_operation opcode.putstatic f (field_type_in data_type))
    puts_array there f =
        subst (λ o. Meets (field_operation opcode.putstatic f o)) (sym data_type_is) (held (puts f (Array Boolean)) 0 data_type refl there)

    reads_field : (place : ℕ) (class : List ℕ) → what_at at place ≡ Some (whats.Field class data_name data_type)
        → Meets (operation_of r at (insns.Member opcode.getstatic place))
    unfolding operation_of
    reads_field place class is =
        subst (λ o. Meets (member_operation opcode.getstatic at r o)) (sym is)
        (named opcode.getstatic data_name data_type (λ f. gets_any f (field_type_in data_type)) class)

    writes_field : (place : ℕ) (class : List ℕ) → what_at at place ≡ Some (whats.Field class data_name data_type) → operand 0 stack ≡ array
        → Meets (operation_of r at (insns.Member opcode.putstatic place))
    unfolding operation_of
    writes_field place class is there =
        subst (λ o. Meets (member_operation opcode.putstatic at r o)) (sym is) (named opcode.putstatic data_name data_type (puts_array there) class)

    -- the array is asked for, by the name of the class
    asks : operand 1 stack ≡ string → (test : Bool) (o : Option ProbeInit) → Meets (init_call at test o)
    asks there true (Some init) = held (fetches_array at.class init) 1 (codes "java/lang/String") refl there
    asks there true None = free outside refl
    asks there false o = free outside refl

    asks_array : (place : ℕ) → in_init at ≡ true → what_at at place ≡ Some (whats.Method runtime_class fetch_name fetch_type) → operand 1 stack ≡ string
        → Meets (operation_of r at (insns.Member opcode.invokestatic place))
    unfolding operation_of
    asks_array place inside is there =
        subst (λ o. Meets (member_operation opcode.invokestatic at r o)) (sym is)
        (subst (λ (t : Bool).
        Meets (if t then init_call at (is_fetch runtime_class fetch_name fetch_type) (init_of at) else method_entered at r
        (callee_named r runtime_class fetch_name fetch_type))) (sym inside)
        (asks there (is_fetch runtime_class fetch_name fetch_type) (init_of at)))

    pushes_id : (place : ℕ) (id : ℤ) → what_at at place ≡ Some (whats.Long id) → Meets (operation_of r at (insns.Constant2 place))
    unfolding operation_of
    pushes_id place id is = free (long_operation (what_at at place)) (ap (λ o. needs_of (long_operation o)) is)

    pushes_name : (place : ℕ) → Meets (operation_of r at (insns.Constant place))
    pushes_name place = free (operation_of r at (insns.Constant place)) (constant_nothing place r at)

    pushes_count : (places : InitPlaces) (count : ℕ) → Meets (operation_of r at (push_count places count))
    pushes_count places count = free (operation_of r at (push_count places count)) (id_nothing (λ n. places.count) count r at)

    computes_alone : Meets (operation_of r at (insns.Simple opcode.dup)) × Meets (operation_of r at (insns.Simple opcode.pop))
    unfolding operation_of
    computes_alone = (free (operation_of r at (insns.Simple opcode.dup)) refl, free (operation_of r at (insns.Simple opcode.pop)) refl)

    tests_array : (to : ℕ) → Meets (operation_of r at (insns.Jump opcode.ifnonnull to))
    unfolding operation_of
    tests_array to = free (operation_of r at (insns.Jump opcode.ifnonnull to)) refl

    gives_array : (method_type_in at.body.desc).returns ≡ Some (Array Boolean) → operand 0 stack ≡ array
        → Meets (operation_of r at (insns.Simple opcode.areturn))
    unfolding operation_of
    gives_array type there =
        subst (λ o. Meets (returns reference_type o)) (sym type) (held (returns reference_type (Some (Array Boolean))) 0 data_type refl there)

-- ---- the operands of each instruction

module _ (p' : Program) (m : Entry) (new : Linked) (b : Body) (class_is : class_at p' m.class ≡ Some new)
    (body_is : slice_get new.bodies m.method ≡ Some b) where
  abbrev at : ℕ → Location
  at q = location m q new b

  abbrev Suits : ℕ → TypeState → Type 0
  Suits q s = OperandsSuit p' m b q s

  stands : (code : List Insn) (q : ℕ) (insn : Insn) (s : TypeState) → b.code ≡ code → slice_get code q ≡ Some insn
      → Meets b s.stack (operation_of p' (at q) insn) → Suits q s
  stands code q insn s same here meets =
      subst (λ op. Meets b s.stack op)
      (sym (ap (operation_at p') (located_is p' m q new b insn class_is body_is (ap (λ (l : List Insn). slice_get l q) same ∙ here)))) meets

  -- the state there is known
  top_is : (q : ℕ) (s t : TypeState) (above : ℕ) (h : VerificationType) → state_of p'.names b q ≡ Some s → state_of p'.names b q ≡ Some t
      → operand above t.stack ≡ h → operand above s.stack ≡ h
  top_is q s t above h is known e = ap (λ (x : TypeState). operand above x.stack) (same_Some s t (sym is ∙ known)) ∙ e

  module _ (class : List ℕ) (id : ℤ) (count : ℕ) where
    module _ (i : IsInitBody p'.names class id count b) where
      inside : is_init_name b.name ≡ true
      inside = same_bytes b.name init_name i.method.name

      on : (q : ℕ) (insn : Insn) (s : TypeState) → slice_get (init_code i.places count) q ≡ Some insn → Meets b s.stack (operation_of p' (at q) insn)
          → Suits q s
      on q insn s here meets = stands (init_code i.places count) q insn s i.method.code_is here meets

      init_operands : (q : ℕ) → q < length b.code → (s : TypeState) → state_of p'.names b q ≡ Some s → Suits q s
      init_operands zero lt s e = on 0 (insns.Member opcode.getstatic i.places.field) s refl (reads_field b s.stack p' (at 0) i.places.field class i.field_is)
      init_operands (suc zero) lt s e = on 1 (insns.Simple opcode.dup) s refl (computes_alone b s.stack p' (at 1)).0
      init_operands (suc (suc zero)) lt s e = on 2 (insns.Jump opcode.ifnonnull end_place) s refl (tests_array b s.stack p' (at 2) end_place)
      init_operands (suc (suc (suc zero))) lt s e = on 3 (insns.Simple opcode.pop) s refl (computes_alone b s.stack p' (at 3)).1
      init_operands (suc (suc (suc (suc zero)))) lt s e =
          on 4 (insns.Constant2 i.places.id) s refl (pushes_id b s.stack p' (at 4) i.places.id id i.names_count.id_is)
      init_operands (suc (suc (suc (suc (suc zero))))) lt s e =
          on 5 (insns.Constant i.places.name) s refl (pushes_name b s.stack p' (at 5) i.places.name)
      init_operands (suc (suc (suc (suc (suc (suc zero)))))) lt s e =
          on 6 (push_count i.places count) s refl (pushes_count b s.stack p' (at 6) i.places count)
      init_operands (suc (suc (suc (suc (suc (suc (suc zero))))))) lt s e =
          on 7 (insns.Member opcode.invokestatic i.places.fetch) s refl
          (asks_array b s.stack p' (at 7) i.places.fetch inside i.names_count.fetch_is
          (top_is 7 s _ 1 string e (init_asks p'.names class id count b i) refl))
      init_operands (suc (suc (suc (suc (suc (suc (suc (suc zero)))))))) lt s e = on 8 (insns.Simple opcode.dup) s refl (computes_alone b s.stack p' (at 8)).0
      init_operands (suc (suc (suc (suc (suc (suc (suc (suc (suc zero))))))))) lt s e =
          on 9 (insns.Member opcode.putstatic i.places.field) s refl
          (writes_field b s.stack p' (at 9) i.places.field class i.field_is (top_is 9 s _ 0 array e (init_writes p'.names class id count b i) refl))
      init_operands (suc (suc (suc (suc (suc (suc (suc (suc (suc (suc zero)))))))))) lt s e =
          on 10 (insns.Simple opcode.areturn) s refl
          (gives_array b s.stack p' (at 10) (ap (λ d. (method_type_in d).returns) i.method.desc_is ∙ init_gives)
          (top_is 10 s _ 0 array e (init_returns p'.names class id count b i) refl))
      init_operands (suc (suc (suc (suc (suc (suc (suc (suc (suc (suc (suc q))))))))))) lt s e =
          let l = ap (λ (x : List Insn). length x) i.method.code_is in absurd (omega (arith, l, lt))

    module _ (i : IsBootstrapBody class id count b) where
      inside_it : is_init_name b.name ≡ true
      inside_it = same_bytes b.name init_name i.method.name

      on_it : (q : ℕ) (insn : Insn) (s : TypeState) → slice_get (bootstrap_code i.places count) q ≡ Some insn → Meets b s.stack (operation_of p' (at q) insn)
          → Suits q s
      on_it q insn s here meets = stands (bootstrap_code i.places count) q insn s i.method.code_is here meets

      bootstrap_operands : (q : ℕ) → q < length b.code → (s : TypeState) → state_of p'.names b q ≡ Some s → Suits q s
      bootstrap_operands zero lt s e =
          on_it 0 (insns.Constant2 i.places.id) s refl (pushes_id b s.stack p' (at 0) i.places.id id i.names_count.id_is)
      bootstrap_operands (suc zero) lt s e =
          on_it 1 (insns.Constant i.places.name) s refl (pushes_name b s.stack p' (at 1) i.places.name)
      bootstrap_operands (suc (suc zero)) lt s e =
          on_it 2 (push_count i.places count) s refl (pushes_count b s.stack p' (at 2) i.places count)
      bootstrap_operands (suc (suc (suc zero))) lt s e =
          on_it 3 (insns.Member opcode.invokestatic i.places.fetch) s refl
          (asks_array b s.stack p' (at 3) i.places.fetch inside_it i.names_count.fetch_is
          (top_is 3 s _ 1 string e (bootstrap_asks p'.names class id count b i) refl))
      bootstrap_operands (suc (suc (suc (suc zero)))) lt s e =
          on_it 4 (insns.Simple opcode.areturn) s refl
          (gives_array b s.stack p' (at 4) (ap (λ d. (method_type_in d).returns) i.method.desc_is ∙ bootstrap_gives)
          (top_is 4 s _ 0 array e (bootstrap_returns p'.names class id count b i) refl))
      bootstrap_operands (suc (suc (suc (suc (suc q))))) lt s e =
          let l = ap (λ (x : List Insn). length x) i.method.code_is in absurd (omega (arith, l, lt))

    added_operands : (fetch : Fetch) → IsAddedBody fetch p'.names class id count b → (q : ℕ) → q < length b.code → (s : TypeState)
        → state_of p'.names b q ≡ Some s → Suits q s
    added_operands fetches.Member is = init_operands is
    added_operands fetches.Constant is = bootstrap_operands is

    no_rows : (fetch : Fetch) → IsAddedBody fetch p'.names class id count b → b.handlers ≡ []
    no_rows fetches.Member is = is.method.handlers
    no_rows fetches.Constant is = is.method.handlers

    pub added_suited : (fetch : Fetch) → IsAddedBody fetch p'.names class id count b → (q : ℕ) → q < length b.code → IsSuited p' m b q
    added_suited fetch is q lt =
        let flows = added_flows passes_flow fetch p'.names class id count b is in
        record {
          operands = added_operands fetch is q lt;
          branches = branches_kept p'.names b q flows;
          handlers = no_handlers p'.names b q (no_rows fetch is);
          entry = entry_kept p'.names b q flows;
        }
