-- Which operations the instructions of each flow are.
use Rattle.std.proofs.Common.{◌≡◌, ℕ, ◌-◌, ◌<◌, Bool, true, false, not, ◌&&◌, List, [], ◌∷◌, Option, Some, None, nat_eq, nat_lt, nat_le, is_some, refl, arith, if◌then◌else◌, codes}
use Rattle.std.specs.Prelude.{⊤, slice_get, bytes_eq, option_and_then}
use Rattle.std.proofs.lemmas.Bool.{leb-true, eqb-true, and_parts}
use Rattle.jc_bytes.specs.Descriptor.{FieldType}
use Rattle.jc_methods.specs.Opcode as opcode
use Rattle.jc_methods.specs.Flow.{flow_of, is_return}
use Rattle.jc_methods.specs.DescriptorTypes.{field_type_in}
use Rattle.jc_methods.specs.ProbeMembers.{data_type}
use Rattle.jc_methods.specs.declared.insn.Insn.{Insn}
use Rattle.jc_methods.specs.declared.insn.Insn.TheVariants as insns
use Rattle.jc_methods.specs.declared.insn.Flow.{Flow}
use Rattle.jc_methods.specs.declared.insn.Flow.TheVariants as flows
use Rattle.jc_methods.specs.declared.body.Body.{Body}
use Rattle.jc_methods.specs.declared.body.What.{What}
use Rattle.jc_methods.specs.declared.body.What.TheVariants as whats
use Rattle.jc_programs.specs.declared.program.Program.{Program}
use Rattle.jc_programs.specs.declared.program.Linked.{Linked}
use Rattle.jc_programs.specs.declared.program.ProbeInit.{ProbeInit}
use Rattle.jc_programs.specs.declared.run_end.Entry.{Entry}
use Rattle.jc_programs.specs.declared.run_end.Thrown.{Thrown}
use Rattle.jc_programs.specs.Members.{class_named, class_at, static_named}
use Rattle.jc_machine_model.specs.Methods.{is_enterable}
use Rattle.jc_machine_model.specs.Values.{Value, probes, ComputationalType, computational_type}
use Rattle.jc_machine_model.specs.Operations.{FieldAt, Printed, Operation, pushes, computes, tests, jumps, indexes, matches, measures, returns, returns_nothing, throws_top, outside}
use Rattle.jc_machine_model.specs.Profile.{Location, in_init, init_of, what_at, given_in, computed_operation, begins_with_array, cast_operation, constant_operation, long_operation, may_name_field, field_operation, declared_field, linked_field, is_print_stream, field_named, may_name_method, callee_named, entered_if, body_entered, class_entered, method_entered, is_fetch, init_call, static_call, printed_by, print_operation, made_class, build_operation, call_named, member_operation, make_operation, class_operation, array_operation, elements_of, read_operation, write_operation, return_operation, simple_operation, local_type, load_operation, store_operation, local_operation, operation_of}
use Rattle.jc_twin_exact.proofs.ValueLaws.{HoldsOfOthers}
use Rattle.jc_twin_exact.proofs.ResultLaws.{Pushed}

-- an operation behind which the next instruction follows, a call, or one outside of the profile
abbrev pub IsPlain : Operation → Type 0
IsPlain (tests op to) = ⊥
IsPlain (jumps to) = ⊥
IsPlain (indexes low d arms) = ⊥
IsPlain (matches d arms) = ⊥
IsPlain (returns c type) = ⊥
IsPlain returns_nothing = ⊥
IsPlain throws_top = ⊥
IsPlain _ = ⊤

-- a return
abbrev pub IsExit : Operation → Type 0
IsExit (returns c type) = ⊤
IsExit returns_nothing = ⊤
IsExit outside = ⊤
IsExit _ = ⊥

-- a conditional jump or a switch, and its operation
abbrev pub IsTest : Insn → Operation → Type 0
IsTest (insns.Jump op to) o = (o ≡ tests op to) × (nat_eq op opcode.goto ≡ false)
IsTest _ o = ⊥

abbrev pub IsSwitch : Insn → Operation → Type 0
IsSwitch (insns.Table low default arms) o = o ≡ indexes low default arms
IsSwitch (insns.Lookup default arms) o = o ≡ matches default arms
IsSwitch _ o = ⊥

abbrev pub IsGoto : Insn → Operation → Type 0
IsGoto (insns.Jump op to) o = (o ≡ jumps to) × (nat_eq op opcode.goto ≡ true)
IsGoto _ o = ⊥

abbrev pub Does : Flow → Insn → Operation → Type 0
Does flows.GoesOn insn o = IsPlain o
Does flows.Branches insn o = IsTest insn o
Does flows.Jumps insn o = IsGoto insn o
Does flows.Switches insn o = IsSwitch insn o
Does flows.Returns insn o = IsExit o
Does flows.Throws insn o = o ≡ throws_top

module _ (V : Value → Type 0) (hold : HoldsOfOthers V) (program : Program) (at : Location)
    (fetched : (init : ProbeInit) → init_of at ≡ Some init → V (probes at.class init.count))
    (given : (what : Option What) (init : ProbeInit) → given_in at what ≡ Some init → V (probes at.class init.count)) where
  abbrev Good : Operation → Type 0
  Good o = IsPlain o × Pushed V o

  if_good : (b : Bool) (x y : Operation) → Good x → Good y → Good (if b then x else y)
  if_good true x y h g = h
  if_good false x y h g = g

  out : Good outside
  out = (tt, tt)

  -- ---- instructions without operands

  good_read : (types : List FieldType) → Good (read_operation types)
  good_read [] = out
  good_read (type ∷ types) = (tt, tt)

  good_write : (types : List FieldType) → Good (write_operation types)
  good_write [] = out
  good_write (type ∷ types) = (tt, tt)

  abbrev Done : Flow → Insn → Operation → Type 0
  Done flow insn o = Does flow insn o × Pushed V o

  if_exit : (b : Bool) (x y : Operation) → Done flows.Returns (insns.Simple 0) x → Done flows.Returns (insns.Simple 0) y → Done flows.Returns (insns.Simple 0) (if b then x else y)
  if_exit true x y h g = h
  if_exit false x y h g = g

  exits : (op : ℕ) (b : Body) → Done flows.Returns (insns.Simple 0) (return_operation op b)
  exits op b =
      if_exit (nat_eq op opcode.ireturn) _ _ (tt, tt) (if_exit (nat_eq op opcode.lreturn) _ _ (tt, tt)
      (if_exit (nat_eq op opcode.areturn) _ _ (tt, tt) (if_exit (nat_eq op opcode.return) _ _ (tt, tt) (tt, tt))))

  -- an opcode between these isn't one of those between higher ones
  apart : (a b c d op : ℕ) → b < c → (nat_le a op && nat_le op b) ≡ true → (nat_le c op && nat_le op d) ≡ true → ⊥
  apart a b c d op lt h k =
      let high = leb-true op b (and_parts (nat_le a op) (nat_le op b) h).1 in
      let low = leb-true c op (and_parts (nat_le c op) (nat_le op d) k).0 in
      omega (arith, high, low, lt)

  apart_one : (a b c op : ℕ) → b < c → (nat_le a op && nat_le op b) ≡ true → nat_eq op c ≡ true → ⊥
  apart_one a b c op lt h k =
      let high = leb-true op b (and_parts (nat_le a op) (nat_le op b) h).1 in
      let same = eqb-true op c k in
      omega (arith, high, same, lt)

  does_simple : (op : ℕ) → Done (flow_of (insns.Simple op)) (insns.Simple op) (simple_operation op at)
  does_simple op =
      by (nat_le opcode.iaload op && nat_le op opcode.saload) (nat_le opcode.iastore op && nat_le op opcode.sastore) (is_return op)
      (nat_eq op opcode.arraylength) (nat_eq op opcode.athrow) refl refl refl refl refl
    where
      by : (a b c d e : Bool) → (nat_le opcode.iaload op && nat_le op opcode.saload) ≡ a → (nat_le opcode.iastore op && nat_le op opcode.sastore) ≡ b
          → is_return op ≡ c → nat_eq op opcode.arraylength ≡ d → nat_eq op opcode.athrow ≡ e
          → Done (if c then flows.Returns else if e then flows.Throws else flows.GoesOn) (insns.Simple op)
          (if a then read_operation (elements_of op) else if b then write_operation (elements_of (op - 33))
          else if c then return_operation op at.body else if d then measures else if e then throws_top else computes op)
      by true b true d e x y z u w = absurd (apart 46 53 172 177 op (omega arith) x z)
      by true b false d true x y z u w = absurd (apart_one 46 53 191 op (omega arith) x w)
      by true b false d false x y z u w = good_read (elements_of op)
      by false true true d e x y z u w = absurd (apart 79 86 172 177 op (omega arith) y z)
      by false true false d true x y z u w = absurd (apart_one 79 86 191 op (omega arith) y w)
      by false true false d false x y z u w = good_write (elements_of (op - 33))
      by false false true d e x y z u w = exits op at.body
      by false false false true true x y z u w =
          let one = eqb-true op 190 u in let other = eqb-true op 191 w in absurd (omega (arith, one, other))
      by false false false false true x y z u w = (refl, tt)
      by false false false true false x y z u w = (tt, tt)
      by false false false false false x y z u w = (tt, tt)

  -- ---- constants and local variables

  good_computed : (what : Option What) (o : Option ProbeInit) → given_in at what ≡ o → Good (computed_operation at o)
  good_computed what None e = out
  good_computed what (Some init) e = if_good (nat_eq at.place 0) _ _ (tt, given what init e) out

  good_constant : (o : Option What) → Good (constant_operation at o)
  good_constant (Some (whats.Int value)) = (tt, hold.ints value)
  good_constant (Some whats.Text) = if_good (is_some (init_of at)) (pushes (Value.text at.class)) outside (tt, hold.texts at.class) out
  good_constant (Some (whats.Computed name desc bootstrap)) =
      good_computed (Some (whats.Computed name desc bootstrap)) (given_in at (Some (whats.Computed name desc bootstrap))) refl
  good_constant _ = out

  good_long : (o : Option What) → Good (long_operation o)
  good_long (Some (whats.Long value)) = (tt, hold.longs value)
  good_long _ = out

  good_load : (slot : ℕ) (c : Option ComputationalType) → Good (load_operation slot c)
  good_load slot None = out
  good_load slot (Some c) = (tt, tt)

  good_store : (slot : ℕ) (c : Option ComputationalType) → Good (store_operation slot c)
  good_store slot None = out
  good_store slot (Some c) = (tt, tt)

  good_local : (op slot : ℕ) → Good (local_operation op slot)
  good_local op slot = if_good (nat_lt op opcode.istore) _ _ (good_load slot (local_type op)) (good_store slot (local_type op))

  -- ---- fields

  good_field : (op : ℕ) (field : FieldAt) (o : Option FieldType) → Good (field_operation op field o)
  good_field op field None = out
  good_field op field (Some type) =
      if_good (not (is_some (computational_type type))) _ _ out (if_good (nat_eq op opcode.getstatic) _ _ (tt, tt)
      (if_good (nat_eq op opcode.putstatic) _ _ (tt, tt) out))

  good_declared : (op class : ℕ) (name desc : List ℕ) (o : Option ℕ) → Good (declared_field op at class name desc o)
  good_declared op class name desc None = out
  good_declared op class name desc (Some field) =
      if_good (may_name_field at class name) _ _ (good_field op (record { class = class; field = field }) (field_type_in desc)) out

  good_linked : (op : ℕ) (name desc : List ℕ) (o : Option ℕ) → Good (linked_field op at program name desc o)
  good_linked op name desc None = out
  good_linked op name desc (Some class) =
      good_declared op class name desc (option_and_then (λ (c : Linked). static_named c.statics name desc) (class_at program class))

  good_named : (op : ℕ) (class name desc : List ℕ) → Good (field_named op at program class name desc)
  good_named op class name desc =
      if_good (is_print_stream op class name desc) _ _ (tt, hold.streams) (good_linked op name desc (class_named program class))

  -- ---- calls

  good_entered_if : (b : Bool) (m : Entry) (body : Body) → Good (entered_if b m body)
  good_entered_if true m body = (tt, tt)
  good_entered_if false m body = out

  good_body : (m : Entry) (c : Linked) (o : Option Body) → Good (body_entered at m c o)
  good_body m c None = out
  good_body m c (Some b) = good_entered_if (is_enterable c b && may_name_method at m.class b.name) m b

  good_class : (m : Entry) (o : Option Linked) → Good (class_entered at m o)
  good_class m None = out
  good_class m (Some c) = good_body m c (slice_get c.bodies m.method)

  good_method : (o : Option Entry) → Good (method_entered at program o)
  good_method None = out
  good_method (Some m) = good_class m (class_at program m.class)

  good_init : (b : Bool) (o : Option ProbeInit) → init_of at ≡ o → Good (init_call at b o)
  good_init true (Some init) e = (tt, fetched init e)
  good_init true None e = out
  good_init false o e = out

  good_static : (class name desc : List ℕ) → Good (static_call at program class name desc)
  good_static class name desc =
      if_good (in_init at) _ _ (good_init (is_fetch class name desc) (init_of at) refl) (good_method (callee_named program class name desc))

  good_print : (o : Option Printed) → Good (print_operation o)
  good_print None = out
  good_print (Some k) = (tt, tt)

  good_build : (o : Option Thrown) → Good (build_operation o)
  good_build None = out
  good_build (Some c) = (tt, tt)

  good_call : (op : ℕ) (class name desc : List ℕ) → Good (call_named op at program class name desc)
  good_call op class name desc =
      if_good (nat_eq op opcode.invokestatic) _ _ (good_static class name desc)
      (if_good (nat_eq op opcode.invokevirtual) _ _
      (if_good (not (in_init at) && (bytes_eq class (codes "java/io/PrintStream") && bytes_eq name (codes "println"))) _ _ (good_print (printed_by desc)) out)
      (if_good (nat_eq op opcode.invokespecial) _ _
      (if_good (not (in_init at) && (bytes_eq name (codes "<init>") && bytes_eq desc (codes "()V"))) _ _ (good_build (made_class class)) out) out))

  good_member : (op : ℕ) (o : Option What) → Good (member_operation op at program o)
  good_member op (Some (whats.Field class name desc)) = good_named op class name desc
  good_member op (Some (whats.Method class name desc)) = good_call op class name desc
  good_member op _ = out

  -- ---- objects

  good_make : (o : Option Thrown) → Good (make_operation o)
  good_make None = out
  good_make (Some c) = (tt, tt)

  good_cast : (name : List ℕ) → Good (cast_operation at name)
  good_cast name = if_good (nat_eq at.place 1 && (bytes_eq name data_type && begins_with_array at at.body.code)) _ _ (tt, tt) out

  good_class_of : (op : ℕ) (o : Option What) → Good (class_operation op at o)
  good_class_of op (Some (whats.Class name)) =
      if_good (nat_eq op opcode.new) _ _ (good_make (made_class name)) (if_good (nat_eq op opcode.checkcast) _ _ (good_cast name) out)
  good_class_of op _ = out

  good_array : (code : ℕ) → Good (array_operation code)
  good_array code =
      if_good (nat_eq code 4) _ _ (tt, tt) (if_good (nat_eq code 5) _ _ (tt, tt) (if_good (nat_eq code 8) _ _ (tt, tt)
      (if_good (nat_eq code 9) _ _ (tt, tt) (if_good (nat_eq code 10) _ _ (tt, tt) (if_good (nat_eq code 11) _ _ (tt, tt) out)))))

  -- ---- all instructions

  does_jump : (op to : ℕ) (b : Bool) → nat_eq op opcode.goto ≡ b
      → Done (if b then flows.Jumps else flows.Branches) (insns.Jump op to) (if b then jumps to else tests op to)
  does_jump op to true e = ((refl, e), tt)
  does_jump op to false e = ((refl, e), tt)

  pub does : (insn : Insn) → Done (flow_of insn) insn (operation_of program at insn)
  unfolding operation_of
  does (insns.Simple op) = does_simple op
  does (insns.Push op value) = (tt, hold.ints value)
  does (insns.Local op slot) = good_local op slot
  does (insns.Inc slot by) = (tt, tt)
  does (insns.Constant place) = good_constant (what_at at place)
  does (insns.Constant2 place) = good_long (what_at at place)
  does (insns.Member op place) = good_member op (what_at at place)
  does (insns.Interface place count) = out
  does (insns.Dynamic place) = out
  does (insns.OfClass op place) = good_class_of op (what_at at place)
  does (insns.NewArray elem) = good_array elem
  does (insns.Multi place dims) = out
  does (insns.Jump op to) = does_jump op to (nat_eq op opcode.goto) refl
  does (insns.Table low default arms) = (refl, tt)
  does (insns.Lookup default arms) = (refl, tt)
