-- What an instruction calls, and where a switch leads.
use Rattle.std.proofs.Common.{◌≡◌, ℕ, ◌-◌, Bool, true, false, ◌&&◌, not, cond, List, [], ◌∷◌, Option, Some, None, is_some, nat_eq, nat_le, nat_lt, refl, ap, subst}
use Rattle.std.specs.Prelude.{ℤ, slice_get, ⊤}
use Rattle.jc_bytes.specs.Descriptor.{FieldType, Byte, Char, Int, Long, Short, Boolean}
use Rattle.jc_methods.specs.Opcode as opcode
use Rattle.jc_methods.specs.Flow.{is_return}
use Rattle.jc_methods.specs.declared.insn.Insn.{Insn}
use Rattle.jc_methods.specs.declared.insn.Insn.TheVariants as insns
use Rattle.jc_methods.specs.declared.insn.Arm.{Arm}
use Rattle.jc_methods.specs.declared.body.Body.{Body}
use Rattle.jc_methods.specs.declared.body.What.{What}
use Rattle.jc_methods.specs.declared.body.What.TheVariants as whats
use Rattle.jc_methods.specs.DescriptorTypes.{field_type_in}
use Rattle.jc_programs.specs.declared.program.Program.{Program}
use Rattle.jc_programs.specs.declared.program.Linked.{Linked}
use Rattle.jc_programs.specs.declared.program.ProbeInit.{ProbeInit}
use Rattle.jc_programs.specs.declared.run_end.Entry.{Entry}
use Rattle.jc_programs.specs.declared.run_end.Thrown.{Thrown}
use Rattle.jc_programs.specs.Members.{class_named, class_at}
use Rattle.jc_machine_model.specs.Methods.{is_enterable}
use Rattle.jc_machine_model.specs.Values.{Value, ComputationalType, computational_type}
use Rattle.jc_machine_model.specs.World.{Frame, Shared}
use Rattle.jc_machine_model.specs.Perform.{perform}
use Rattle.jc_machine_model.specs.Step.{LocatedInsn, operation_at, located}
use Rattle.jc_machine_model.specs.Operations.{FieldAt, Printed, Operation, pushes, computes, tests, jumps, indexes, matches, makes_array, measures, gets, puts, invokes, casts, returns, returns_nothing, throws_top, outside}
use Rattle.jc_machine_model.specs.Profile.{Location, in_init, init_of, what_at, given_of, given_by, computed_operation, constant_operation, long_operation, may_name_field, field_operation, declared_field, linked_field, is_print_stream, field_named, may_name_method, callee_named, entered_if, body_entered, class_entered, method_entered, is_fetch, init_call, printed_by, print_operation, made_class, build_operation, call_named, member_operation, make_operation, cast_operation, class_operation, array_operation, elements_of, read_operation, write_operation, return_operation, simple_operation, local_type, load_operation, store_operation, local_operation, operation_of}
use Rattle.jc_machine_code.specs.declared.operation.Operation.{Operation as ShownOperation}
use Rattle.jc_machine_code.specs.declared.operation.Operation.TheVariants as shown
use Rattle.jc_machine_code.specs.Shown.{Shows}
use Rattle.jc_machine_code.specs.Invoked.{GoesByKey, Invoked, IsSwitch}

module _ (program : Program) where
  -- it is no switch, and what it calls is a method of the program
  abbrev Fine : Operation → Type 0
  Fine (indexes low default arms) = ⊥
  Fine (matches default arms) = ⊥
  Fine (invokes callee parameters max_locals) = Invoked program callee parameters max_locals
  Fine operation = ⊤

  either : (b : Bool) (x y : Operation) → Fine x → Fine y → Fine (cond b x y)
  either true x y f g = f
  either false x y f g = g

  -- ---- calls

  enters_fine : (at : Location) (method : Entry) (c : Linked) (o : Option Body) → class_at program method.class ≡ Some c → slice_get c.bodies method.method ≡ o → Fine (body_entered at method c o)
  enters_fine at method c None e g = tt
  enters_fine at method c (Some b) e g = by (is_enterable c b) refl (may_name_method at method.class b.name)
    where
      by : (x : Bool) → is_enterable c b ≡ x → (y : Bool) → Fine (entered_if (x && y) method b)
      by true q true = record { linked = c; class_is = e; body = b; body_is = g; enterable = q; parameters_are = refl; max_locals_is = refl }
      by true q false = tt
      by false q y = tt

  class_fine : (at : Location) (method : Entry) (o : Option Linked) → class_at program method.class ≡ o → Fine (class_entered at method o)
  class_fine at method None e = tt
  class_fine at method (Some c) e = enters_fine at method c (slice_get c.bodies method.method) e refl

  method_fine : (at : Location) (o : Option Entry) → Fine (method_entered at program o)
  method_fine at None = tt
  method_fine at (Some method) = class_fine at method (class_at program method.class) refl

  init_fine : (at : Location) (b : Bool) (o : Option ProbeInit) → Fine (init_call at b o)
  init_fine at true (Some init) = tt
  init_fine at true None = tt
  init_fine at false (Some init) = tt
  init_fine at false None = tt

  print_fine : (o : Option Printed) → Fine (print_operation o)
  print_fine None = tt
  print_fine (Some printed) = tt

  build_fine : (o : Option Thrown) → Fine (build_operation o)
  build_fine None = tt
  build_fine (Some c) = tt

  call_fine : (op : ℕ) (at : Location) (class name desc : List ℕ) → Fine (call_named op at program class name desc)
  call_fine op at class name desc =
      either (nat_eq op opcode.invokestatic) _ _
      (either (in_init at) _ _ (init_fine at (is_fetch class name desc) (init_of at)) (method_fine at (callee_named program class name desc)))
      (either (nat_eq op opcode.invokevirtual) _ _ (either _ (print_operation (printed_by desc)) outside (print_fine (printed_by desc)) tt)
      (either (nat_eq op opcode.invokespecial) _ outside (either _ (build_operation (made_class class)) outside (build_fine (made_class class)) tt) tt))

  -- ---- static fields

  type_fine : (op : ℕ) (field : FieldAt) (o : Option FieldType) → Fine (field_operation op field o)
  type_fine op field None = tt
  type_fine op field (Some type) =
      either (not (is_some (computational_type type))) outside _ tt
      (either (nat_eq op opcode.getstatic) (gets field type) _ tt (either (nat_eq op opcode.putstatic) (puts field type) outside tt tt))

  declared_fine : (op : ℕ) (at : Location) (class : ℕ) (name desc : List ℕ) (o : Option ℕ) → Fine (declared_field op at class name desc o)
  declared_fine op at class name desc None = tt
  declared_fine op at class name desc (Some field) =
      either (may_name_field at class name) (field_operation op (record { class = class; field = field }) (field_type_in desc)) outside
      (type_fine op (record { class = class; field = field }) (field_type_in desc)) tt

  linked_fine : (op : ℕ) (at : Location) (name desc : List ℕ) (o : Option ℕ) → Fine (linked_field op at program name desc o)
  linked_fine op at name desc None = tt
  linked_fine op at name desc (Some class) = declared_fine op at class name desc _

  field_fine : (op : ℕ) (at : Location) (class name desc : List ℕ) → Fine (field_named op at program class name desc)
  field_fine op at class name desc =
      either (is_print_stream op class name desc) (pushes Value.print_stream) _ tt (linked_fine op at name desc (class_named program class))

  member_fine : (op : ℕ) (at : Location) (o : Option What) → Fine (member_operation op at program o)
  member_fine op at (Some (whats.Field class name desc)) = field_fine op at class name desc
  member_fine op at (Some (whats.Method class name desc)) = call_fine op at class name desc
  member_fine op at _ = tt

  -- ---- other instructions

  computed_fine : (at : Location) (o : Option ProbeInit) → Fine (computed_operation at o)
  computed_fine at None = tt
  computed_fine at (Some init) = either (nat_eq at.place 0) (pushes (Value.probes at.class init.count)) outside tt tt

  constant_fine : (at : Location) (o : Option What) → Fine (constant_operation at o)
  constant_fine at (Some (whats.Computed name desc bootstrap)) = computed_fine at (given_by (given_of at.linked) name desc bootstrap)
  constant_fine at (Some whats.Text) = either (is_some (init_of at)) (pushes (Value.text at.class)) outside tt tt
  constant_fine at _ = tt

  long_fine : (o : Option What) → Fine (long_operation o)
  long_fine (Some (whats.Long value)) = tt
  long_fine _ = tt

  make_fine : (o : Option Thrown) → Fine (make_operation o)
  make_fine None = tt
  make_fine (Some c) = tt

  of_class_fine : (op : ℕ) (at : Location) (o : Option What) → Fine (class_operation op at o)
  of_class_fine op at (Some (whats.Class name)) =
      either (nat_eq op opcode.new) (make_operation (made_class name)) _ (make_fine (made_class name))
      (either (nat_eq op opcode.checkcast) (cast_operation at name) outside (either _ (casts at.class) outside tt tt) tt)
  of_class_fine op at _ = tt

  array_fine : (code : ℕ) → Fine (array_operation code)
  array_fine code =
      either (nat_eq code 4) (makes_array Boolean) _ tt
      (either (nat_eq code 5) (makes_array Char) _ tt
      (either (nat_eq code 8) (makes_array Byte) _ tt
      (either (nat_eq code 9) (makes_array Short) _ tt
      (either (nat_eq code 10) (makes_array Int) _ tt
      (either (nat_eq code 11) (makes_array Long) outside tt tt)))))

  read_fine : (types : List FieldType) → Fine (read_operation types)
  read_fine [] = tt
  read_fine (type ∷ types) = tt

  write_fine : (types : List FieldType) → Fine (write_operation types)
  write_fine [] = tt
  write_fine (type ∷ types) = tt

  return_fine : (op : ℕ) (b : Body) → Fine (return_operation op b)
  return_fine op b =
      either (nat_eq op opcode.ireturn) (returns _ _) _ tt
      (either (nat_eq op opcode.lreturn) (returns _ _) _ tt
      (either (nat_eq op opcode.areturn) (returns _ _) _ tt
      (either (nat_eq op opcode.return) returns_nothing outside tt tt)))

  simple_fine : (op : ℕ) (at : Location) → Fine (simple_operation op at)
  simple_fine op at =
      either (nat_le opcode.iaload op && nat_le op opcode.saload) _ _ (read_fine (elements_of op))
      (either (nat_le opcode.iastore op && nat_le op opcode.sastore) _ _ (write_fine (elements_of (op - (opcode.iastore - opcode.iaload))))
      (either (is_return op) _ _ (return_fine op at.body)
      (either (nat_eq op opcode.arraylength) measures _ tt
      (either (nat_eq op opcode.athrow) throws_top (computes op) tt tt))))

  load_fine : (slot : ℕ) (o : Option ComputationalType) → Fine (load_operation slot o)
  load_fine slot None = tt
  load_fine slot (Some k) = tt

  store_fine : (slot : ℕ) (o : Option ComputationalType) → Fine (store_operation slot o)
  store_fine slot None = tt
  store_fine slot (Some k) = tt

  local_fine : (op slot : ℕ) → Fine (local_operation op slot)
  local_fine op slot = either (nat_lt op opcode.istore) _ _ (load_fine slot (local_type op)) (store_fine slot (local_type op))

  -- ---- all instructions

  abbrev FineInsn : Insn → Operation → Type 0
  FineInsn (insns.Table low default arms) o = o ≡ indexes low default arms
  FineInsn (insns.Lookup default arms) o = o ≡ matches default arms
  FineInsn insn o = Fine o

  each_fine : (at : Location) (insn : Insn) → FineInsn insn (operation_of program at insn)
  unfolding operation_of
  each_fine at (insns.Simple op) = simple_fine op at
  each_fine at (insns.Push op value) = tt
  each_fine at (insns.Local op slot) = local_fine op slot
  each_fine at (insns.Inc slot by) = tt
  each_fine at (insns.Constant place) = constant_fine at (what_at at place)
  each_fine at (insns.Constant2 place) = long_fine (what_at at place)
  each_fine at (insns.Member op place) = member_fine op at (what_at at place)
  each_fine at (insns.Interface place count) = tt
  each_fine at (insns.Dynamic place) = tt
  each_fine at (insns.OfClass op place) = of_class_fine op at (what_at at place)
  each_fine at (insns.NewArray elem) = array_fine elem
  each_fine at (insns.Multi place dims) = tt
  each_fine at (insns.Jump op to) = either (nat_eq op opcode.goto) (jumps to) (tests op to) tt tt
  each_fine at (insns.Table low default arms) = refl
  each_fine at (insns.Lookup default arms) = refl

  calls_fine : (insn : Insn) (o : Operation) (callee : Entry) (parameters : List FieldType) (max_locals : ℕ) → FineInsn insn o
      → o ≡ invokes callee parameters max_locals → Invoked program callee parameters max_locals
  calls_fine (insns.Table low default arms) o callee parameters max_locals f e = absurd (cc)
  calls_fine (insns.Lookup default arms) o callee parameters max_locals f e = absurd (cc)
  calls_fine insn o callee parameters max_locals f e = subst Fine e f

  -- an instruction that calls a method calls one of the program that a thread may enter
  pub invoked : (at : Location) (insn : Insn) (callee : Entry) (parameters : List FieldType) (max_locals : ℕ) → operation_of program at insn ≡ invokes callee parameters max_locals
      → Invoked program callee parameters max_locals
  invoked at insn callee parameters max_locals e = calls_fine insn (operation_of program at insn) callee parameters max_locals (each_fine at insn) e

  located_calls : (o : Option LocatedInsn) (callee : Entry) (parameters : List FieldType) (max_locals : ℕ) → operation_at program o ≡ invokes callee parameters max_locals
      → Invoked program callee parameters max_locals
  located_calls None callee parameters max_locals e = absurd (cc)
  located_calls (Some i) callee parameters max_locals e = invoked i.at i.insn callee parameters max_locals e

  pub invoked_at : (method : Entry) (place : ℕ) (callee : Entry) (parameters : List FieldType) (max_locals : ℕ)
      → operation_at program (located program method place) ≡ invokes callee parameters max_locals
      → Invoked program callee parameters max_locals
  invoked_at method place = located_calls (located program method place)

  -- ---- switches

  abbrev Leads : Insn → Operation → Type 0
  Leads insn o = (s : Shared) (f : Frame) → GoesByKey o insn s f

  table_leads : (insn : Insn) (o : Operation) (low : ℤ) (default : ℕ) (arms : List ℕ) → FineInsn insn o → o ≡ indexes low default arms → Leads insn o
  unfolding perform
  table_leads (insns.Table low default arms) o l d a f e s frame = ap (λ x. perform x s frame) f
  table_leads (insns.Lookup default arms) o l d a f e s frame = ap (λ x. perform x s frame) f
  table_leads insn o l d a f e s frame = absurd (subst Fine e f)

  lookup_leads : (insn : Insn) (o : Operation) (default : ℕ) (arms : List Arm) → FineInsn insn o → o ≡ matches default arms → Leads insn o
  unfolding perform
  lookup_leads (insns.Table low default arms) o d a f e s frame = ap (λ x. perform x s frame) f
  lookup_leads (insns.Lookup default arms) o d a f e s frame = ap (λ x. perform x s frame) f
  lookup_leads insn o d a f e s frame = absurd (subst Fine e f)

  -- a turn at a switch goes on where the instruction leads with the key
  pub switches : (at : Location) (insn : Insn) (o : ShownOperation) → IsSwitch o → Shows o (operation_of program at insn) → Leads insn (operation_of program at insn)
  switches at insn shown.Indexes is e = table_leads insn (operation_of program at insn) e.0 e.1 e.2 (each_fine at insn) e.3
  switches at insn shown.Matches is e = lookup_leads insn (operation_of program at insn) e.0 e.1 (each_fine at insn) e.2
  switches at insn o is e = absurd is
