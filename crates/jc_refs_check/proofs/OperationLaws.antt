-- The descriptors on which operations hang.
use Rattle.std.proofs.Common.{◌≡◌, inl, inr, ℕ, ◌-◌, Bool, true, false, ◌&&◌, not, cond, List, [], ◌∷◌, get_or, Option, Some, None, is_some, nat_eq, nat_le, nat_lt, refl, sym, ◌∙◌, ap, subst}
use Rattle.std.specs.Prelude.{slice_get, ⊤, position, bytes_eq, option_and_then}
use Rattle.std.proofs.lemmas.Bool.{and_parts}
use Rattle.std.proofs.lemmas.List.Elements.{All-contains}
use Rattle.std.proofs.lemmas.List.Quantifiers.{position-Some}
use Rattle.std.proofs.lemmas.Option.{slice_get-get_or}
use Rattle.jc_bytes.proofs.BooleanLaws.{stands_in}
use Rattle.jc_bytes.specs.Descriptor.{FieldType, Byte, Char, Int, Long, Short, Boolean, DescribesField, IsFieldDescriptor}
use Rattle.jc_methods.specs.Opcode as opcode
use Rattle.jc_methods.specs.Flow.{is_return}
use Rattle.jc_methods.specs.InsnUse.{pool_place, IsMemberFor, IsClass, Suits}
use Rattle.jc_methods.specs.WellMade.{what_used, HasUse, AreUses}
use Rattle.jc_methods.proofs.DescriptorTypesLaws.{field_again}
use Rattle.jc_methods.specs.declared.insn.Insn.{Insn}
use Rattle.jc_methods.specs.declared.insn.Insn.TheVariants as insns
use Rattle.jc_methods.specs.declared.body.Body.{Body}
use Rattle.jc_methods.specs.declared.body.What.{What}
use Rattle.jc_methods.specs.declared.body.What.TheVariants as whats
use Rattle.jc_methods.specs.DescriptorTypes.{field_type_in, method_type_in}
use Rattle.jc_programs.specs.declared.program.Program.{Program}
use Rattle.jc_programs.specs.declared.program.Linked.{Linked}
use Rattle.jc_programs.specs.declared.program.StaticField.{StaticField}
use Rattle.jc_programs.specs.declared.program.ProbeInit.{ProbeInit}
use Rattle.jc_programs.specs.declared.run_end.Entry.{Entry}
use Rattle.jc_programs.specs.declared.run_end.Thrown.{Thrown}
use Rattle.jc_programs.specs.Members.{class_named, class_at, static_named}
use Rattle.jc_programs.specs.Throwables.{name_of}
use Rattle.jc_kinds_after.specs.After.{class_in, new_class}
use Rattle.jc_machine_model.specs.Fits.{made_in}
use Rattle.jc_machine_model.specs.Step.{located_in_body, located_in_class, operation_at}
use Rattle.jc_machine_model.specs.Methods.{is_enterable}
use Rattle.jc_machine_model.specs.Values.{Value, ComputationalType, computational_type}
use Rattle.jc_machine_model.specs.Operations.{FieldAt, Printed, Operation, pushes, computes, tests, jumps, makes_array, measures, gets, puts, builds, casts, returns, returns_nothing, throws_top, outside}
use Rattle.jc_machine_model.specs.Profile.{Location, in_init, init_of, what_at, given_of, given_by, computed_operation, constant_operation, long_operation, may_name_field, field_operation, declared_field, linked_field, is_print_stream, field_named, may_name_method, callee_named, entered_if, body_entered, class_entered, method_entered, is_fetch, init_call, printed_by, print_operation, made_class, build_operation, call_named, member_operation, make_operation, cast_operation, class_operation, array_operation, elements_of, read_operation, write_operation, return_operation, simple_operation, local_type, load_operation, store_operation, local_operation, operation_of}
use Rattle.jc_machine_code.specs.declared.operation.Operation.{Operation as ShownOperation}
use Rattle.jc_machine_code.specs.declared.operation.Operation.TheVariants as shown
use Rattle.jc_machine_code.specs.Shown.{Shows}
use Rattle.jc_refs_check.specs.RefsOk.{operation_of_place}
use Rattle.jc_refs_check.specs.KindNeeds.{IsFieldOf, IsMadeClass}
use Rattle.jc_refs_check.proofs.ThrownLaws.{bytes_are, named_is, made_named, is_made}

-- ---- a class of which there are objects

made_back : (name : List ℕ) (c : Thrown) → made_class name ≡ Some c → IsMadeClass c
unfolding IsMadeClass
made_back name c e = ap made_class (named_is name c (made_named name c e)) ∙ e

-- what stands at a place of the pool, as each instruction there needs it
what_there : (b : Body) (place : ℕ) (Fact : What → Type 0) → HasUse b.uses place Fact → (what : What) → what_used b.uses place ≡ Some what → Fact what
what_there b place Fact u what e = let same : u.what ≡ what = some_is (sym u.used ∙ e) in subst Fact same u.fact
  where
    some_is : {x y : What} → Some x ≡ Some y → x ≡ y
    some_is e = cc

-- ---- a static field by its name

position_at : {X : Type 0} (p : X → Bool) (xs : List X) (i : ℕ) → position p xs ≡ Some i → (x : X) × (slice_get xs i ≡ Some x) × (p x ≡ true)
position_at p [] i e = absurd cc
position_at p (x ∷ xs) i e = let f = position-Some p (x ∷ xs) i x e in (get_or (x ∷ xs) i x, slice_get-get_or (x ∷ xs) i x f.0, f.1)

-- the class has another name than one of which no objects are made
pub none_made : (class : Thrown) (name : List ℕ) (r : ShownOperation) → IsMadeClass class → Shows r (make_operation (made_class name)) → ((c : Thrown) → r ≡ shown.Makes c → ⊥)
    → false ≡ bytes_eq (name_of class) name
unfolding IsMadeClass
none_made class name r made shows other = by (bytes_eq (name_of class) name) refl
  where
    by : (b : Bool) → bytes_eq (name_of class) name ≡ b → false ≡ b
    by false q = refl
    by true q =
        let is : made_class name ≡ Some class = ap made_class (sym (bytes_are (name_of class) name q)) ∙ made in
        absurd (other class (is_made r class (subst (λ (o : Option Thrown). Shows r (make_operation o)) is shows)))

module _ (program : Program) where
  -- what is stored, returned or built is of the type that the field, the method or the `new` says
  abbrev pub Fine : Body → Operation → Type 0
  Fine b (puts field type) = IsFieldOf program field.class field.field type
  Fine b (returns computational type) = type ≡ (method_type_in b.desc).returns
  Fine b (builds c) = IsMadeClass c
  Fine b operation = ⊤

  either : (b : Body) (c : Bool) (x y : Operation) → Fine b x → Fine b y → Fine b (cond c x y)
  either b true x y f g = f
  either b false x y f g = g

  -- ---- calls

  entered_fine : (b : Body) (x : Bool) (method : Entry) (c : Body) → Fine b (entered_if x method c)
  entered_fine b true method c = tt
  entered_fine b false method c = tt

  enters_fine : (at : Location) (method : Entry) (c : Linked) (o : Option Body) → Fine at.body (body_entered at method c o)
  enters_fine at method c None = tt
  enters_fine at method c (Some b) = entered_fine at.body (is_enterable c b && may_name_method at method.class b.name) method b

  class_fine : (at : Location) (method : Entry) (o : Option Linked) → Fine at.body (class_entered at method o)
  class_fine at method None = tt
  class_fine at method (Some c) = enters_fine at method c (slice_get c.bodies method.method)

  method_fine : (at : Location) (o : Option Entry) → Fine at.body (method_entered at program o)
  method_fine at None = tt
  method_fine at (Some method) = class_fine at method (class_at program method.class)

  init_fine : (at : Location) (b : Bool) (o : Option ProbeInit) → Fine at.body (init_call at b o)
  init_fine at true (Some init) = tt
  init_fine at true None = tt
  init_fine at false (Some init) = tt
  init_fine at false None = tt

  print_fine : (b : Body) (o : Option Printed) → Fine b (print_operation o)
  print_fine b None = tt
  print_fine b (Some printed) = tt

  build_fine : (b : Body) (name : List ℕ) (o : Option Thrown) → made_class name ≡ o → Fine b (build_operation o)
  build_fine b name None e = tt
  build_fine b name (Some c) e = made_back name c e

  call_fine : (op : ℕ) (at : Location) (class name desc : List ℕ) → Fine at.body (call_named op at program class name desc)
  call_fine op at class name desc =
      let b = at.body in
      either b (nat_eq op opcode.invokestatic) _ _
      (either b (in_init at) _ _ (init_fine at (is_fetch class name desc) (init_of at)) (method_fine at (callee_named program class name desc)))
      (either b (nat_eq op opcode.invokevirtual) _ _ (either b _ (print_operation (printed_by desc)) outside (print_fine b (printed_by desc)) tt)
      (either b (nat_eq op opcode.invokespecial) _ outside (either b _ (build_operation (made_class class)) outside (build_fine b class (made_class class) refl) tt) tt))

  -- ---- static fields

  type_fine : (b : Body) (op : ℕ) (field : FieldAt) (desc : List ℕ) (o : Option FieldType) → field_type_in desc ≡ o
      → ((type : FieldType) → DescribesField desc type → IsFieldOf program field.class field.field type) → IsFieldDescriptor desc → Fine b (field_operation op field o)
  type_fine b op field desc None e there described = tt
  type_fine b op field desc (Some type) e there described =
      let same : described.0 ≡ type = some_is (sym (field_again desc described.0 described.1) ∙ e) in
      either b (not (is_some (computational_type type))) outside _ tt
      (either b (nat_eq op opcode.getstatic) (gets field type) _ tt
      (either b (nat_eq op opcode.putstatic) (puts field type) outside (there type (subst (DescribesField desc) same described.1)) tt))
    where
      some_is : {x y : FieldType} → Some x ≡ Some y → x ≡ y
      some_is e = cc

  static_of : (class : ℕ) (c : Linked) (name desc : List ℕ) (field : ℕ) → class_at program class ≡ Some c → static_named c.statics name desc ≡ Some field
      → (type : FieldType) → DescribesField desc type → IsFieldOf program class field type
  static_of class c name desc field is named type d =
      let at = position_at (λ (f : StaticField). bytes_eq f.name name && bytes_eq f.desc desc) c.statics field named in
      record {
        linked = c;
        class_is = is;
        static = at.0;
        static_is = at.1;
        described = subst (λ (text : List ℕ). DescribesField text type)
            (sym (bytes_are at.0.desc desc ((and_parts (bytes_eq at.0.name name) (bytes_eq at.0.desc desc) at.2).1))) d;
      }

  declared_fine : (op : ℕ) (at : Location) (class : ℕ) (name desc : List ℕ) (o : Option ℕ)
      → ((field : ℕ) → o ≡ Some field → (type : FieldType) → DescribesField desc type → IsFieldOf program class field type)
      → IsFieldDescriptor desc → Fine at.body (declared_field op at class name desc o)
  declared_fine op at class name desc None there described = tt
  declared_fine op at class name desc (Some field) there described =
      either at.body (may_name_field at class name) (field_operation op (record { class = class; field = field }) (field_type_in desc)) outside
      (type_fine at.body op (record { class = class; field = field }) desc (field_type_in desc) refl (there field refl) described) tt

  named_there : (class : ℕ) (name desc : List ℕ) (o : Option Linked) → class_at program class ≡ o
      → (field : ℕ) → option_and_then (λ (c : Linked). static_named c.statics name desc) o ≡ Some field
      → (type : FieldType) → DescribesField desc type → IsFieldOf program class field type
  named_there class name desc None is field e = absurd cc
  named_there class name desc (Some c) is field e = static_of class c name desc field is e

  linked_fine : (op : ℕ) (at : Location) (name desc : List ℕ) (o : Option ℕ) → IsFieldDescriptor desc → Fine at.body (linked_field op at program name desc o)
  linked_fine op at name desc None described = tt
  linked_fine op at name desc (Some class) described = declared_fine op at class name desc _ (named_there class name desc (class_at program class) refl) described

  field_fine : (op : ℕ) (at : Location) (class name desc : List ℕ) → IsFieldDescriptor desc → Fine at.body (field_named op at program class name desc)
  field_fine op at class name desc described =
      either at.body (is_print_stream op class name desc) (pushes Value.print_stream) _ tt (linked_fine op at name desc (class_named program class) described)

  member_fine : (op : ℕ) (at : Location) (o : Option What) → ((what : What) → o ≡ Some what → IsMemberFor op what) → Fine at.body (member_operation op at program o)
  member_fine op at (Some (whats.Field class name desc)) fact = by (fact (whats.Field class name desc) refl)
    where
      by : IsMemberFor op (whats.Field class name desc) → Fine at.body (field_named op at program class name desc)
      by (inl f) = field_fine op at class name desc f.1
      by (inr m) = absurd m.1
  member_fine op at (Some (whats.Method class name desc)) fact = call_fine op at class name desc
  member_fine op at _ fact = tt

  -- ---- other instructions

  computed_fine : (at : Location) (o : Option ProbeInit) → Fine at.body (computed_operation at o)
  computed_fine at None = tt
  computed_fine at (Some init) = either at.body (nat_eq at.place 0) (pushes (Value.probes at.class init.count)) outside tt tt

  constant_fine : (at : Location) (o : Option What) → Fine at.body (constant_operation at o)
  constant_fine at (Some (whats.Computed name desc bootstrap)) = computed_fine at (given_by (given_of at.linked) name desc bootstrap)
  constant_fine at (Some whats.Text) = either at.body (is_some (init_of at)) (pushes (Value.text at.class)) outside tt tt
  constant_fine at _ = tt

  long_fine : (b : Body) (o : Option What) → Fine b (long_operation o)
  long_fine b (Some (whats.Long value)) = tt
  long_fine b _ = tt

  make_fine : (b : Body) (o : Option Thrown) → Fine b (make_operation o)
  make_fine b None = tt
  make_fine b (Some c) = tt

  of_class_fine : (op : ℕ) (at : Location) (o : Option What) → Fine at.body (class_operation op at o)
  of_class_fine op at (Some (whats.Class name)) =
      let b = at.body in
      either b (nat_eq op opcode.new) (make_operation (made_class name)) _ (make_fine b (made_class name))
      (either b (nat_eq op opcode.checkcast) (cast_operation at name) outside (either b _ (casts at.class) outside tt tt) tt)
  of_class_fine op at _ = tt

  array_fine : (b : Body) (code : ℕ) → Fine b (array_operation code)
  array_fine b code =
      either b (nat_eq code 4) (makes_array Boolean) _ tt
      (either b (nat_eq code 5) (makes_array Char) _ tt
      (either b (nat_eq code 8) (makes_array Byte) _ tt
      (either b (nat_eq code 9) (makes_array Short) _ tt
      (either b (nat_eq code 10) (makes_array Int) _ tt
      (either b (nat_eq code 11) (makes_array Long) outside tt tt)))))

  read_fine : (b : Body) (types : List FieldType) → Fine b (read_operation types)
  read_fine b [] = tt
  read_fine b (type ∷ types) = tt

  write_fine : (b : Body) (types : List FieldType) → Fine b (write_operation types)
  write_fine b [] = tt
  write_fine b (type ∷ types) = tt

  return_fine : (op : ℕ) (b : Body) → Fine b (return_operation op b)
  return_fine op b =
      either b (nat_eq op opcode.ireturn) (returns _ _) _ refl
      (either b (nat_eq op opcode.lreturn) (returns _ _) _ refl
      (either b (nat_eq op opcode.areturn) (returns _ _) _ refl
      (either b (nat_eq op opcode.return) returns_nothing outside tt tt)))

  simple_fine : (op : ℕ) (at : Location) → Fine at.body (simple_operation op at)
  simple_fine op at =
      let b = at.body in
      either b (nat_le opcode.iaload op && nat_le op opcode.saload) _ _ (read_fine b (elements_of op))
      (either b (nat_le opcode.iastore op && nat_le op opcode.sastore) _ _ (write_fine b (elements_of (op - (opcode.iastore - opcode.iaload))))
      (either b (is_return op) _ _ (return_fine op b)
      (either b (nat_eq op opcode.arraylength) measures _ tt
      (either b (nat_eq op opcode.athrow) throws_top (computes op) tt tt))))

  load_fine : (b : Body) (slot : ℕ) (o : Option ComputationalType) → Fine b (load_operation slot o)
  load_fine b slot None = tt
  load_fine b slot (Some k) = tt

  store_fine : (b : Body) (slot : ℕ) (o : Option ComputationalType) → Fine b (store_operation slot o)
  store_fine b slot None = tt
  store_fine b slot (Some k) = tt

  local_fine : (b : Body) (op slot : ℕ) → Fine b (local_operation op slot)
  local_fine b op slot = either b (nat_lt op opcode.istore) _ _ (load_fine b slot (local_type op)) (store_fine b slot (local_type op))

  -- ---- all instructions

  pub each_fine : (at : Location) (insn : Insn) → ((place : ℕ) → pool_place insn ≡ Some place → HasUse at.body.uses place (Suits insn)) → Fine at.body (operation_of program at insn)
  unfolding operation_of
  each_fine at (insns.Simple op) uses = simple_fine op at
  each_fine at (insns.Push op value) uses = tt
  each_fine at (insns.Local op slot) uses = local_fine at.body op slot
  each_fine at (insns.Inc slot by) uses = tt
  each_fine at (insns.Constant place) uses = constant_fine at (what_at at place)
  each_fine at (insns.Constant2 place) uses = long_fine at.body (what_at at place)
  each_fine at (insns.Member op place) uses = member_fine op at (what_at at place) (what_there at.body place (IsMemberFor op) (uses place refl))
  each_fine at (insns.Interface place count) uses = tt
  each_fine at (insns.Dynamic place) uses = tt
  each_fine at (insns.OfClass op place) uses = of_class_fine op at (what_at at place)
  each_fine at (insns.NewArray elem) uses = array_fine at.body elem
  each_fine at (insns.Multi place dims) uses = tt
  each_fine at (insns.Jump op to) uses = either at.body (nat_eq op opcode.goto) (jumps to) (tests op to) tt tt
  each_fine at (insns.Table low default arms) uses = tt
  each_fine at (insns.Lookup default arms) uses = tt

  -- ---- by place

  -- the instruction at a place of a method is one of the method's body
  pub fine_there : (method : Entry) (c : Linked) (b : Body) (place : ℕ) → class_at program method.class ≡ Some c → slice_get c.bodies method.method ≡ Some b
      → AreUses b.code b.handlers b.uses → Fine b (operation_of_place program method place)
  fine_there method c b place is there uses =
      subst (λ (o : Option Linked). Fine b (operation_at program (option_and_then (λ (l : Linked). located_in_class method.class place l (slice_get l.bodies method.method)) o))) (sym is)
      (subst (λ (o : Option Body). Fine b (operation_at program (located_in_class method.class place c o))) (sym there) (in_body (slice_get b.code place) refl))
    where
      in_body : (o : Option Insn) → slice_get b.code place ≡ o → Fine b (operation_at program (located_in_body method.class c place b o))
      in_body None e = tt
      in_body (Some insn) e = each_fine (record { class = method.class; linked = c; body = b; place = place }) insn
          (All-contains (λ (i : Insn). (p : ℕ) → pool_place i ≡ Some p → HasUse b.uses p (Suits i)) b.code insn uses.by_insns (stands_in b.code place insn e))

  of_new : (at : Location) (place : ℕ) → operation_of program at (insns.OfClass opcode.new place) ≡ class_operation opcode.new at (what_at at place)
  unfolding operation_of
  of_new at place = refl

  -- a `new` makes objects of the class that it names, if the machine has any
  pub new_there : (method : Entry) (c : Linked) (b : Body) (at place : ℕ) → class_at program method.class ≡ Some c → slice_get c.bodies method.method ≡ Some b
      → AreUses b.code b.handlers b.uses → slice_get b.code at ≡ Some (insns.OfClass opcode.new place)
      → operation_of_place program method at ≡ make_operation (made_class (made_in b at))
  new_there method c b at place is there uses new =
      ap (λ (o : Option Linked). operation_at program (option_and_then (λ (l : Linked). located_in_class method.class at l (slice_get l.bodies method.method)) o)) is
      ∙ ap (λ (o : Option Body). operation_at program (located_in_class method.class at c o)) there
      ∙ ap (λ (o : Option Insn). operation_at program (located_in_body method.class c at b o)) new
      ∙ of_new (record { class = method.class; linked = c; body = b; place = at }) place
      ∙ by u.what u.used u.fact
      ∙ ap (λ (o : Option Insn). make_operation (made_class (new_class b.uses o))) (sym new)
    where
      u : HasUse b.uses place (Suits (insns.OfClass opcode.new place))
      u = All-contains (λ (i : Insn). (p : ℕ) → pool_place i ≡ Some p → HasUse b.uses p (Suits i)) b.code (insns.OfClass opcode.new place) uses.by_insns
          (stands_in b.code at (insns.OfClass opcode.new place) new) place refl

      by : (what : What) → what_used b.uses place ≡ Some what → IsClass what
          → class_operation opcode.new (record { class = method.class; linked = c; body = b; place = at }) (what_used b.uses place) ≡ make_operation (made_class (class_in (what_used b.uses place)))
      by (whats.Class name) e f =
          ap (class_operation opcode.new (record { class = method.class; linked = c; body = b; place = at })) e
          ∙ ap (λ (o : Option What). make_operation (made_class (class_in o))) (sym e)
      by _ e f = absurd f
