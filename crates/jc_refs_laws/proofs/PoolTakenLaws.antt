-- What an instruction takes of which it needs something, the kind check looks at: fields, calls, and each instruction.
use Rattle.std.proofs.Common.{◌≡◌, ℕ, Bool, true, false, not, ◌&&◌, cond, List, [], ◌∷◌, length, map, Option, Some, None, codes, is_some, nat_eq, nat_lt, refl, sym, ◌∙◌, ap, subst}
use Rattle.std.specs.Prelude.{slice_get, option_and_then}
use Rattle.std.specs.Str.{bytes_eq}
use Rattle.std.proofs.lemmas.Bool.{and_parts}
use Rattle.std.proofs.lemmas.List.{length-map}
use Rattle.jc_bytes.specs.Descriptor.{FieldType, Byte, Char, Int, Long, Short, Boolean}
use Rattle.jc_methods.specs.declared.insn.Insn.{Insn}
use Rattle.jc_methods.specs.declared.insn.Insn.TheVariants as insns
use Rattle.jc_methods.specs.declared.body.Body.{Body}
use Rattle.jc_methods.specs.declared.body.What.{What}
use Rattle.jc_methods.specs.declared.body.What.TheVariants as whats
use Rattle.jc_methods.specs.DescriptorTypes.{types_from, rest_from, field_type_in, method_type_in}
use Rattle.jc_methods.specs.Opcode as opcode
use Rattle.jc_methods.specs.ProbeMembers.{data_type, runtime_class, fetch_name, fetch_type}
use Rattle.jc_programs.specs.declared.program.Program.{Program}
use Rattle.jc_programs.specs.declared.program.Linked.{Linked}
use Rattle.jc_programs.specs.declared.program.ProbeInit.{ProbeInit}
use Rattle.jc_programs.specs.declared.run_end.Entry.{Entry}
use Rattle.jc_programs.specs.declared.run_end.Thrown.{Thrown}
use Rattle.jc_programs.specs.Members.{class_named, class_at, static_named}
use Rattle.jc_kinds_after.specs.declared.want.Want.TheVariants as wants
use Rattle.jc_kinds_after.specs.Step.{Step}
use Rattle.jc_kinds_after.specs.After.{want_of, result_of, field_step, static_step, object_step, method_step, member_step, step_of, returns_of}
use Rattle.jc_machine_model.specs.Methods.{is_enterable}
use Rattle.jc_machine_model.specs.Values.{Value, ComputationalType, computational_type}
use Rattle.jc_machine_model.specs.Operations.{FieldAt, Printed, an_int_line, a_long_line, a_boolean_line, an_empty_line, Operation, pushes, loads, stores, counts, tests, jumps, indexes, matches, makes_array, gets, puts, invokes, makes, prints, fetches, casts, outside}
use Rattle.jc_machine_model.specs.Profile.{Location, in_init, init_of, what_at, given_in, computed_operation, constant_operation, long_operation, may_name_field, field_operation, declared_field, linked_field, is_print_stream, field_named}
use Rattle.jc_machine_model.specs.Profile.{may_name_method, callee_named, entered_if, body_entered, class_entered, method_entered, is_fetch, init_call, static_call, printed_by, print_operation, virtual_call, made_class, build_operation, special_call, call_named, member_operation}
use Rattle.jc_machine_model.specs.Profile.{make_operation, begins_with_array, class_operation, array_operation, local_type, load_operation, store_operation, local_operation, operation_of}
use Rattle.jc_machine_laws.proofs.ReturnLaws.{named_is, desc_of}
use Rattle.jc_refs_check.proofs.ThrownLaws.{bytes_are}
use Rattle.jc_refs_laws.proofs.TakenLaws.{Looks, nothing, fails_looks, moves_looks, builds_looks, where_so, none_outside, plain_if, at_code, simple_looks}

-- ---- static fields

module _ (op : ℕ) (at : Location) (program : Program) (class name desc : List ℕ) where
  abbrev field_step_of : ℕ → Step
  field_step_of n = member_step n (Some (whats.Field class name desc))

  stored : (o : Option FieldType) (field : FieldAt) (type : FieldType) → Looks (field_step opcode.putstatic o) (puts field type)
  stored None field type = fails_looks (puts field type)
  stored (Some t) field type = moves_looks (want_of t ∷ []) [] (puts field type) refl refl

  typed : (field : FieldAt) (o : Option FieldType) → Looks (field_step_of op) (field_operation op field o)
  typed field None = none_outside (field_step_of op)
  typed field (Some type) =
      let step = field_step_of op in
      where_so step (not (is_some (computational_type type))) outside _ (λ e. none_outside step)
      (λ f. where_so step (nat_eq op opcode.getstatic) _ _ (λ e. nothing step (gets field type) refl refl)
      (λ f. where_so step (nat_eq op opcode.putstatic) _ _
      (λ e. at_code (λ n. Looks (field_step_of n) (puts field type)) op opcode.putstatic e (stored (field_type_in desc) field type))
      (λ f. none_outside step)))

  declared : (number : ℕ) (o : Option ℕ) → Looks (field_step_of op) (declared_field op at number name desc o)
  declared number None = none_outside (field_step_of op)
  declared number (Some field) =
      where_so (field_step_of op) (may_name_field at number name) _ outside
      (λ e. typed (record { class = number; field = field }) (field_type_in desc)) (λ f. none_outside (field_step_of op))

  linked : (o : Option ℕ) → Looks (field_step_of op) (linked_field op at program name desc o)
  linked None = none_outside (field_step_of op)
  linked (Some number) = declared number (option_and_then (λ (c : Linked). static_named c.statics name desc) (class_at program number))

  field_looks : Looks (member_step op (Some (whats.Field class name desc))) (field_named op at program class name desc)
  field_looks =
      where_so (field_step_of op) (is_print_stream op class name desc) (pushes Value.print_stream) _
      (λ e. nothing (field_step_of op) (pushes Value.print_stream) refl refl) (λ f. linked (class_named program class))

-- ---- calls

module _ (at : Location) (program : Program) (class name desc : List ℕ) where
  -- the call by which a class gets its probe array
  asks : (init : ProbeInit) → Looks (static_step (method_type_in fetch_type)) (fetches at.class init)
  unfolding types_from rest_from
  asks init = moves_looks (wants.Long ∷ wants.Reference ∷ wants.Int ∷ []) _ (fetches at.class init) refl refl

  init_looks : (z : Bool) → is_fetch class name desc ≡ z → (o : Option ProbeInit) → Looks (static_step (method_type_in desc)) (init_call at z o)
  init_looks true e (Some init) =
      let p = and_parts (bytes_eq class runtime_class) _ e in
      let q = and_parts (bytes_eq name fetch_name) (bytes_eq desc fetch_type) p.1 in
      subst (λ d. Looks (static_step (method_type_in d)) (fetches at.class init)) (sym (bytes_are desc fetch_type q.1)) (asks init)
  init_looks true e None = none_outside (static_step (method_type_in desc))
  init_looks false e o = none_outside (static_step (method_type_in desc))

  -- a method of the program
  entered : (o : Option Entry) → callee_named program class name desc ≡ o → Looks (static_step (method_type_in desc)) (method_entered at program o)
  entered None g = none_outside (static_step (method_type_in desc))
  entered (Some callee) g = in_class (class_at program callee.class) refl
    where
      step : Step
      step = static_step (method_type_in desc)

      in_body : (d : Linked) → class_at program callee.class ≡ Some d → (body : Body) → slice_get d.bodies callee.method ≡ Some body → (z : Bool)
          → Looks step (entered_if z callee body)
      in_body d p body q false = none_outside step
      in_body d p body q true =
          moves_looks (map want_of (method_type_in desc).parameters) (result_of (method_type_in desc).returns)
          (invokes callee (method_type_in body.desc).parameters body.max_locals)
          (ap (λ x. length (method_type_in x).parameters) (desc_of program name desc callee d body (named_is program class name desc callee g) p q)
          ∙ sym (length-map (method_type_in desc).parameters want_of)) refl

      in_bodies : (d : Linked) → class_at program callee.class ≡ Some d → (o : Option Body) → slice_get d.bodies callee.method ≡ o
          → Looks step (body_entered at callee d o)
      in_bodies d p None q = none_outside step
      in_bodies d p (Some body) q = in_body d p body q (is_enterable d body && may_name_method at callee.class body.name)

      in_class : (o : Option Linked) → class_at program callee.class ≡ o → Looks (static_step (method_type_in desc)) (class_entered at callee o)
      in_class None p = none_outside step
      in_class (Some d) p = in_bodies d p (slice_get d.bodies callee.method) refl

  static_looks : Looks (static_step (method_type_in desc)) (static_call at program class name desc)
  static_looks =
      where_so (static_step (method_type_in desc)) (in_init at) _ _
      (λ e. init_looks (is_fetch class name desc) refl (init_of at)) (λ f. entered (callee_named program class name desc) refl)

  -- println
  printed : (d : List ℕ) (p : Printed) → bytes_eq desc d ≡ true → Looks (object_step (method_type_in d)) (prints p)
      → Looks (object_step (method_type_in desc)) (prints p)
  printed d p e l = subst (λ x. Looks (object_step (method_type_in x)) (prints p)) (sym (bytes_are desc d e)) l

  prints_look : Looks (object_step (method_type_in desc)) (print_operation (printed_by desc))
  unfolding types_from rest_from
  prints_look =
      by (bytes_eq desc (codes "(I)V")) refl (bytes_eq desc (codes "(J)V")) refl (bytes_eq desc (codes "(Z)V")) refl (bytes_eq desc (codes "()V")) refl
    where
      by : (b1 : Bool) → bytes_eq desc (codes "(I)V") ≡ b1 → (b2 : Bool) → bytes_eq desc (codes "(J)V") ≡ b2 → (b3 : Bool)
          → bytes_eq desc (codes "(Z)V") ≡ b3 → (b4 : Bool) → bytes_eq desc (codes "()V") ≡ b4
          → Looks (object_step (method_type_in desc)) (print_operation (cond b1 (Some an_int_line) (cond b2 (Some a_long_line)
          (cond b3 (Some a_boolean_line) (cond b4 (Some an_empty_line) None)))))
      by true p b2 q b3 r b4 u = printed (codes "(I)V") an_int_line p (moves_looks (wants.Reference ∷ wants.Int ∷ []) [] (prints an_int_line) refl refl)
      by false p true q b3 r b4 u = printed (codes "(J)V") a_long_line q (moves_looks (wants.Reference ∷ wants.Long ∷ []) [] (prints a_long_line) refl refl)
      by false p false q true r b4 u =
          printed (codes "(Z)V") a_boolean_line r (moves_looks (wants.Reference ∷ wants.Int ∷ []) [] (prints a_boolean_line) refl refl)
      by false p false q false r true u = printed (codes "()V") an_empty_line u (moves_looks (wants.Reference ∷ []) [] (prints an_empty_line) refl refl)
      by false p false q false r false u = none_outside (object_step (method_type_in desc))

  virtual_looks : Looks (object_step (method_type_in desc)) (virtual_call at class name desc)
  virtual_looks =
      where_so (object_step (method_type_in desc)) (not (in_init at) && (bytes_eq class (codes "java/io/PrintStream") && bytes_eq name (codes "println")))
      _ outside (λ e. prints_look) (λ f. none_outside (object_step (method_type_in desc)))

  -- a constructor
  constructs : (o : Option Thrown) → Looks (method_step opcode.invokespecial (codes "<init>") (method_type_in (codes "()V"))) (build_operation o)
  unfolding types_from rest_from
  constructs None = none_outside (method_step opcode.invokespecial (codes "<init>") (method_type_in (codes "()V")))
  constructs (Some c) = builds_looks c

  special_looks : Looks (method_step opcode.invokespecial name (method_type_in desc)) (special_call at class name desc)
  special_looks =
      where_so (method_step opcode.invokespecial name (method_type_in desc))
      (not (in_init at) && (bytes_eq name (codes "<init>") && bytes_eq desc (codes "()V"))) _ outside
      (λ e. named (and_parts (bytes_eq name (codes "<init>")) (bytes_eq desc (codes "()V")) (and_parts (not (in_init at)) _ e).1))
      (λ f. none_outside (method_step opcode.invokespecial name (method_type_in desc)))
    where
      named : (bytes_eq name (codes "<init>") ≡ true) × (bytes_eq desc (codes "()V") ≡ true)
          → Looks (method_step opcode.invokespecial name (method_type_in desc)) (build_operation (made_class class))
      named p =
          subst (λ n. Looks (method_step opcode.invokespecial n (method_type_in desc)) (build_operation (made_class class)))
          (sym (bytes_are name (codes "<init>") p.0))
          (subst (λ d. Looks (method_step opcode.invokespecial (codes "<init>") (method_type_in d)) (build_operation (made_class class)))
          (sym (bytes_are desc (codes "()V") p.1)) (constructs (made_class class)))

  abbrev call_step : ℕ → Step
  call_step n = member_step n (Some (whats.Method class name desc))

  call_looks : (op : ℕ) → Looks (member_step op (Some (whats.Method class name desc))) (call_named op at program class name desc)
  call_looks op =
      where_so (call_step op) (nat_eq op opcode.invokestatic) _ _
      (λ e. at_code (λ n. Looks (call_step n) (static_call at program class name desc)) op opcode.invokestatic e static_looks)
      (λ f. where_so (call_step op) (nat_eq op opcode.invokevirtual) _ _
      (λ e. at_code (λ n. Looks (call_step n) (virtual_call at class name desc)) op opcode.invokevirtual e virtual_looks)
      (λ f. where_so (call_step op) (nat_eq op opcode.invokespecial) _ _
      (λ e. at_code (λ n. Looks (call_step n) (special_call at class name desc)) op opcode.invokespecial e special_looks)
      (λ f. none_outside (call_step op))))

member_looks : (op : ℕ) (at : Location) (program : Program) (o : Option What) → Looks (member_step op o) (member_operation op at program o)
member_looks op at program (Some (whats.Field class name desc)) = field_looks op at program class name desc
member_looks op at program (Some (whats.Method class name desc)) = call_looks at program class name desc op
member_looks op at program o = none_outside (member_step op o)

-- ---- what needs nothing

module _ (step : Step) where
  computed_looks : (at : Location) (o : Option ProbeInit) → Looks step (computed_operation at o)
  computed_looks at None = none_outside step
  computed_looks at (Some init) = plain_if step (nat_eq at.place 0) (pushes (Value.probes at.class init.count)) refl refl

  constant_looks : (at : Location) (o : Option What) → Looks step (constant_operation at o)
  constant_looks at (Some (whats.Int value)) = nothing step (pushes (Value.int value)) refl refl
  constant_looks at (Some whats.Text) = plain_if step (is_some (init_of at)) (pushes (Value.text at.class)) refl refl
  constant_looks at o = computed_looks at (given_in at o)

  long_looks : (o : Option What) → Looks step (long_operation o)
  long_looks (Some (whats.Long value)) = nothing step (pushes (Value.long value)) refl refl
  long_looks o = none_outside step

  make_looks : (o : Option Thrown) → Looks step (make_operation o)
  make_looks None = none_outside step
  make_looks (Some c) = nothing step (makes c) refl refl

  class_looks : (op : ℕ) (at : Location) (o : Option What) → Looks step (class_operation op at o)
  class_looks op at (Some (whats.Class name)) =
      where_so step (nat_eq op opcode.new) _ _ (λ e. make_looks (made_class name))
      (λ f. where_so step (nat_eq op opcode.checkcast) _ outside
      (λ e. plain_if step (nat_eq at.place 1 && (bytes_eq name data_type && begins_with_array at at.body.code)) (casts at.class) refl refl)
      (λ g. none_outside step))
  class_looks op at o = none_outside step

  array_looks : (code : ℕ) → Looks step (array_operation code)
  array_looks code =
      one 4 Boolean _ (one 5 Char _ (one 8 Byte _ (one 9 Short _ (one 10 Int _ (one 11 Long outside (none_outside step))))))
    where
      one : (n : ℕ) (element : FieldType) (rest : Operation) → Looks step rest → Looks step (cond (nat_eq code n) (makes_array element) rest)
      one n element rest l = where_so step (nat_eq code n) (makes_array element) rest (λ e. nothing step (makes_array element) refl refl) (λ f. l)

  load_looks : (slot : ℕ) (o : Option ComputationalType) → Looks step (load_operation slot o)
  load_looks slot None = none_outside step
  load_looks slot (Some computational) = nothing step (loads computational slot) refl refl

  store_looks : (slot : ℕ) (o : Option ComputationalType) → Looks step (store_operation slot o)
  store_looks slot None = none_outside step
  store_looks slot (Some computational) = nothing step (stores computational slot) refl refl

  local_looks : (op slot : ℕ) → Looks step (local_operation op slot)
  local_looks op slot = where_so step (nat_lt op opcode.istore) _ _ (λ e. load_looks slot (local_type op)) (λ f. store_looks slot (local_type op))

  jump_looks : (op to : ℕ) → Looks step (cond (nat_eq op opcode.goto) (jumps to) (tests op to))
  jump_looks op to =
      where_so step (nat_eq op opcode.goto) (jumps to) (tests op to) (λ e. nothing step (jumps to) refl refl) (λ f. nothing step (tests op to) refl refl)

-- ---- each instruction

pub each_looks : (program : Program) (at : Location) (insn : Insn) → Looks (step_of at.body.uses (returns_of at.body) insn) (operation_of program at insn)
unfolding operation_of
each_looks program at (insns.Simple op) = simple_looks (returns_of at.body) op at
each_looks program at (insns.Push op value) = nothing _ (pushes (Value.int value)) refl refl
each_looks program at (insns.Local op slot) = local_looks _ op slot
each_looks program at (insns.Inc slot by) = nothing _ (counts slot by) refl refl
each_looks program at (insns.Constant place) = constant_looks _ at (what_at at place)
each_looks program at (insns.Constant2 place) = long_looks _ (what_at at place)
each_looks program at (insns.Member op place) = member_looks op at program (what_at at place)
each_looks program at (insns.Interface place count) = none_outside _
each_looks program at (insns.Dynamic place) = none_outside _
each_looks program at (insns.OfClass op place) = class_looks _ op at (what_at at place)
each_looks program at (insns.NewArray elem) = array_looks _ elem
each_looks program at (insns.Multi place dims) = none_outside _
each_looks program at (insns.Jump op to) = jump_looks _ op to
each_looks program at (insns.Table low default arms) = nothing _ (indexes low default arms) refl refl
each_looks program at (insns.Lookup default arms) = nothing _ (matches default arms) refl refl
