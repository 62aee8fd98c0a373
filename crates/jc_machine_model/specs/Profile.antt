-- The profile: which instructions the machine executes, and what each is. Every other instruction is outside of it.
use Rattle.std.specs.Prelude.{ℕ, ◌-◌, Bool, true, false, ◌&&◌, ◌||◌, not, List, [], ◌∷◌, Option, Some, None, option_and_then, option_map, is_some, nat_eq, nat_le, nat_lt, codes, bytes_eq, slice_get, if◌then◌else◌}
use Rattle.jc_bytes.specs.Descriptor.{FieldType, Byte, Char, Int, Long, Short, Boolean}
use Rattle.jc_methods.specs.declared.insn.Insn.TheVariants as insns
use Rattle.jc_methods.specs.declared.body.What.TheVariants as whats
use Rattle.jc_methods.specs.Opcode as opcode
use Rattle.jc_methods.specs.declared.insn.Insn.{Insn}
use Rattle.jc_methods.specs.declared.probe_members.Fetch.{Fetch}
use Rattle.jc_methods.specs.declared.probe_members.Fetch.TheVariants as ways
use Rattle.jc_methods.specs.declared.body.Body.{Body}
use Rattle.jc_methods.specs.declared.body.What.{What}
use Rattle.jc_methods.specs.Flow.{is_return}
use Rattle.jc_methods.specs.DescriptorTypes.{field_type_in, method_type_in}
use Rattle.jc_methods.specs.ProbeMembers.{init_type, data_name, data_type, constant_type, runtime_class, fetch_name, fetch_type, fetch_of}
use Rattle.jc_methods.specs.WellMade.{what_used}
use Rattle.jc_programs.specs.declared.run_end.Thrown.TheVariants as thrown
use Rattle.jc_programs.specs.declared.program.Program.{Program}
use Rattle.jc_programs.specs.declared.program.Linked.{Linked}
use Rattle.jc_programs.specs.declared.program.ProbeInit.{ProbeInit}
use Rattle.jc_programs.specs.declared.run_end.Entry.{Entry}
use Rattle.jc_programs.specs.declared.run_end.Thrown.{Thrown}
use Rattle.jc_programs.specs.Members.{class_named, class_at, method_named, static_named}
use Rattle.jc_programs.specs.Throwables.{thrown_named}
use Rattle.jc_machine_model.specs.Methods.{is_init_name, declares_init, is_enterable}
use Rattle.jc_machine_model.specs.Values.{Value, int, long, ComputationalType, int_type, long_type, reference_type, computational_type}
use Rattle.jc_machine_model.specs.Operations.{FieldAt, Printed, Operation, an_int_line, a_long_line, a_boolean_line, an_empty_line, pushes, computes, loads, stores, counts, tests, jumps, indexes, matches, reads, writes, makes_array, measures, gets, puts, invokes, makes, builds, prints, fetches, casts, returns, returns_nothing, throws_top, outside}

-- ---- an instruction of a program

-- where an instruction stands
pub record Location : Type 0 where
  -- the number of the class, and the class
  pub class : ℕ
  pub linked : Linked
  pub body : Body
  pub place : ℕ

-- it stands in a method named `$jacocoInit`
abbrev pub in_init : Location → Bool
in_init at = is_init_name at.body.name

-- by a constant
abbrev pub gets_by : Fetch → Bool
gets_by ways.Member = false
gets_by ways.Constant = true

-- the class gets its probe array by a constant
abbrev pub has_constant : Linked → Bool
has_constant c = gets_by (fetch_of c.version)

-- in a method `$jacocoInit ()[Z` of a class with probes: what it gives when it asks for its probe array
abbrev pub init_of : Location → Option ProbeInit
init_of at = if in_init at && bytes_eq at.body.desc init_type then at.linked.probes else None

-- what stands at a place in the constant pool
abbrev pub what_at : Location → ℕ → Option What
what_at at place = what_used at.body.uses place

-- ---- constants

-- the constant is the one that this bootstrap method of the class gives
abbrev pub is_bootstrapped : Option ℕ → ℕ → Bool
is_bootstrapped None bootstrap = false
is_bootstrapped (Some own) bootstrap = nat_eq own bootstrap

-- What a class gives its methods by a constant: nothing, where it declares no method that could give the constant its value (JVM
-- Specification 5.4.3.6).
abbrev pub given_of : Linked → Option ProbeInit
given_of c = if has_constant c && declares_init c then c.probes else None

-- what this constant gives, where it is the one that gives this
abbrev pub given_by : Option ProbeInit → (name desc : List ℕ) → (bootstrap : ℕ) → Option ProbeInit
given_by None name desc bootstrap = None
given_by (Some init) name desc bootstrap =
    if is_bootstrapped init.bootstrap bootstrap && (bytes_eq name data_name && bytes_eq desc constant_type) then Some init else None

abbrev pub given_in : Location → Option What → Option ProbeInit
given_in at (Some (whats.Computed name desc bootstrap)) = given_by (given_of at.linked) name desc bootstrap
given_in at what = None

-- the probe array, at instruction 0 alone
abbrev pub computed_operation : Location → Option ProbeInit → Operation
computed_operation at None = outside
computed_operation at (Some init) = if nat_eq at.place 0 then pushes (Value.probes at.class init.count) else outside

-- ldc of an int, of a text where a class asks for its probe array, and of the constant that gives it (JVM Specification 6.5, ldc)
abbrev pub constant_operation : Location → Option What → Operation
constant_operation at (Some (whats.Int value)) = pushes (int value)
constant_operation at (Some whats.Text) = if is_some (init_of at) then pushes (Value.text at.class) else outside
constant_operation at what = computed_operation at (given_in at what)

-- ldc2_w of a long (JVM Specification 6.5, ldc2_w)
abbrev pub long_operation : Option What → Operation
long_operation (Some (whats.Long value)) = pushes (long value)
long_operation _ = outside

-- ---- static fields

-- a field `$jacocoData` may be named in the `$jacocoInit` of its class alone
abbrev pub may_name_field : Location → ℕ → List ℕ → Bool
may_name_field at class name = not (bytes_eq name data_name) || (in_init at && nat_eq at.class class)

-- getstatic or putstatic of a field of a type of which the machine has values
abbrev pub field_operation : ℕ → FieldAt → Option FieldType → Operation
field_operation op field None = outside
field_operation op field (Some type) =
    if not (is_some (computational_type type)) then outside
    else if nat_eq op opcode.getstatic then gets field type
    else if nat_eq op opcode.putstatic then puts field type
    else outside

-- of the static field with this name and descriptor that the class declares
abbrev pub declared_field : ℕ → Location → ℕ → List ℕ → List ℕ → Option ℕ → Operation
declared_field op at class name desc None = outside
declared_field op at class name desc (Some field) =
    if may_name_field at class name then field_operation op (record { class = class; field = field }) (field_type_in desc) else outside

abbrev pub linked_field : ℕ → Location → Program → List ℕ → List ℕ → Option ℕ → Operation
linked_field op at program name desc None = outside
linked_field op at program name desc (Some class) =
    declared_field op at class name desc (option_and_then (λ (c : Linked). static_named c.statics name desc) (class_at program class))

-- getstatic java/lang/System.out Ljava/io/PrintStream;
abbrev pub is_print_stream : ℕ → List ℕ → List ℕ → List ℕ → Bool
is_print_stream op class name desc =
    nat_eq op opcode.getstatic && (bytes_eq class (codes "java/lang/System") && (bytes_eq name (codes "out") && bytes_eq desc (codes "Ljava/io/PrintStream;")))

abbrev pub field_named : ℕ → Location → Program → List ℕ → List ℕ → List ℕ → Operation
field_named op at program class name desc =
    if is_print_stream op class name desc then pushes Value.print_stream
    else linked_field op at program name desc (class_named program class)

-- ---- calls

-- a method `$jacocoInit` may be called by instruction 0 of a method of its class alone, where the class doesn't get its array by a
-- constant
abbrev pub may_name_method : Location → ℕ → List ℕ → Bool
may_name_method at class name = not (is_init_name name) || (nat_eq at.place 0 && (nat_eq at.class class && not (has_constant at.linked)))

abbrev pub method_in : List ℕ → List ℕ → ℕ → Linked → Option Entry
method_in name desc class c = option_map (λ (k : ℕ). record { class = class; method = k }) (method_named c.bodies name desc)

-- the first method with code of the name and the descriptor, of the class with a name
abbrev pub callee_named : Program → List ℕ → List ℕ → List ℕ → Option Entry
callee_named program class name desc =
    option_and_then (λ (k : ℕ). option_and_then (method_in name desc k) (class_at program k)) (class_named program class)

abbrev pub enters : Entry → Body → Operation
enters method b = invokes method (method_type_in b.desc).parameters b.max_locals

abbrev pub entered_if : Bool → Entry → Body → Operation
entered_if true method b = enters method b
entered_if false method b = outside

abbrev pub body_entered : Location → Entry → Linked → Option Body → Operation
body_entered at method c None = outside
body_entered at method c (Some b) = entered_if (is_enterable c b && may_name_method at method.class b.name) method b

abbrev pub class_entered : Location → Entry → Option Linked → Operation
class_entered at method None = outside
class_entered at method (Some c) = body_entered at method c (slice_get c.bodies method.method)

-- a call of a method that a thread may enter, and that may be called here
abbrev pub method_entered : Location → Program → Option Entry → Operation
method_entered at program None = outside
method_entered at program (Some method) = class_entered at method (class_at program method.class)

-- the call by which a class gets its probe array
abbrev pub is_fetch : List ℕ → List ℕ → List ℕ → Bool
is_fetch class name desc = bytes_eq class runtime_class && (bytes_eq name fetch_name && bytes_eq desc fetch_type)

-- in a method named `$jacocoInit`
abbrev pub init_call : Location → Bool → Option ProbeInit → Operation
init_call at true (Some init) = fetches at.class init
init_call at _ _ = outside

-- invokestatic
abbrev pub static_call : Location → Program → List ℕ → List ℕ → List ℕ → Operation
static_call at program class name desc =
    if in_init at then init_call at (is_fetch class name desc) (init_of at)
    else method_entered at program (callee_named program class name desc)

-- what println prints, by its descriptor
abbrev pub printed_by : List ℕ → Option Printed
printed_by desc =
    if bytes_eq desc (codes "(I)V") then Some an_int_line
    else if bytes_eq desc (codes "(J)V") then Some a_long_line
    else if bytes_eq desc (codes "(Z)V") then Some a_boolean_line
    else if bytes_eq desc (codes "()V") then Some an_empty_line
    else None

abbrev pub print_operation : Option Printed → Operation
print_operation None = outside
print_operation (Some printed) = prints printed

-- invokevirtual of java/io/PrintStream.println, outside of `$jacocoInit`
abbrev pub virtual_call : Location → List ℕ → List ℕ → List ℕ → Operation
virtual_call at class name desc =
    if not (in_init at) && (bytes_eq class (codes "java/io/PrintStream") && bytes_eq name (codes "println")) then print_operation (printed_by desc)
    else outside

-- a class of throwables of which there are objects: VirtualMachineError is abstract
abbrev pub made_class : List ℕ → Option Thrown
made_class name = elim (thrown_named name) [ Some thrown.VirtualMachineError ↦ None | other ↦ other ]

abbrev pub build_operation : Option Thrown → Operation
build_operation None = outside
build_operation (Some c) = builds c

-- invokespecial of the constructor without parameters of a throwable, outside of `$jacocoInit`
abbrev pub special_call : Location → List ℕ → List ℕ → List ℕ → Operation
special_call at class name desc =
    if not (in_init at) && (bytes_eq name (codes "<init>") && bytes_eq desc (codes "()V")) then build_operation (made_class class)
    else outside

abbrev pub call_named : ℕ → Location → Program → List ℕ → List ℕ → List ℕ → Operation
call_named op at program class name desc =
    if nat_eq op opcode.invokestatic then static_call at program class name desc
    else if nat_eq op opcode.invokevirtual then virtual_call at class name desc
    else if nat_eq op opcode.invokespecial then special_call at class name desc
    else outside

abbrev pub member_operation : ℕ → Location → Program → Option What → Operation
member_operation op at program (Some (whats.Field class name desc)) = field_named op at program class name desc
member_operation op at program (Some (whats.Method class name desc)) = call_named op at program class name desc
member_operation op at program _ = outside

-- ---- objects

abbrev pub make_operation : Option Thrown → Operation
make_operation None = outside
make_operation (Some c) = makes c

-- instruction 0 of the method gives the class's probe array
abbrev pub begins_with_array : Location → List Insn → Bool
begins_with_array at (insns.Constant place ∷ code) = is_some (given_in at (what_at at place))
begins_with_array at code = false

-- checkcast of the probe array, behind it (JVM Specification 6.5, checkcast)
abbrev pub cast_operation : Location → List ℕ → Operation
cast_operation at name =
    if nat_eq at.place 1 && (bytes_eq name data_type && begins_with_array at at.body.code) then casts at.class else outside

-- new of a throwable
abbrev pub class_operation : ℕ → Location → Option What → Operation
class_operation op at (Some (whats.Class name)) =
    if nat_eq op opcode.new then make_operation (made_class name)
    else if nat_eq op opcode.checkcast then cast_operation at name
    else outside
class_operation op at _ = outside

-- the type of the elements by the code of newarray, but for floats and doubles (JVM Specification 6.5, newarray)
abbrev pub array_operation : ℕ → Operation
array_operation code =
    if nat_eq code 4 then makes_array Boolean
    else if nat_eq code 5 then makes_array Char
    else if nat_eq code 8 then makes_array Byte
    else if nat_eq code 9 then makes_array Short
    else if nat_eq code 10 then makes_array Int
    else if nat_eq code 11 then makes_array Long
    else outside

-- ---- instructions without operands

-- the types of elements that iaload, laload, baload, caload and saload load
abbrev pub elements_of : ℕ → List FieldType
elements_of op =
    if nat_eq op opcode.iaload then Int ∷ []
    else if nat_eq op opcode.laload then Long ∷ []
    else if nat_eq op opcode.baload then Byte ∷ Boolean ∷ []
    else if nat_eq op opcode.caload then Char ∷ []
    else if nat_eq op opcode.saload then Short ∷ []
    else []

abbrev pub read_operation : List FieldType → Operation
read_operation [] = outside
read_operation (type ∷ types) = reads (type ∷ types)

abbrev pub write_operation : List FieldType → Operation
write_operation [] = outside
write_operation (type ∷ types) = writes (type ∷ types)

-- ireturn, lreturn, areturn, return
abbrev pub return_operation : ℕ → Body → Operation
return_operation op b =
    if nat_eq op opcode.ireturn then returns int_type (method_type_in b.desc).returns
    else if nat_eq op opcode.lreturn then returns long_type (method_type_in b.desc).returns
    else if nat_eq op opcode.areturn then returns reference_type (method_type_in b.desc).returns
    else if nat_eq op opcode.return then returns_nothing
    else outside

-- A store into an array has the place among the stores that the load of the same type has among the loads.
abbrev pub simple_operation : ℕ → Location → Operation
simple_operation op at =
    if nat_le opcode.iaload op && nat_le op opcode.saload then read_operation (elements_of op)
    else if nat_le opcode.iastore op && nat_le op opcode.sastore then write_operation (elements_of (op - (opcode.iastore - opcode.iaload)))
    else if is_return op then return_operation op at.body
    else if nat_eq op opcode.arraylength then measures
    else if nat_eq op opcode.athrow then throws_top
    else computes op

-- ---- local variables

-- the type of the values that a load or a store of a local variable moves, if the machine has any
abbrev pub local_type : ℕ → Option ComputationalType
local_type op =
    if nat_eq op opcode.iload || nat_eq op opcode.istore then Some int_type
    else if nat_eq op opcode.lload || nat_eq op opcode.lstore then Some long_type
    else if nat_eq op opcode.aload || nat_eq op opcode.astore then Some reference_type
    else None

abbrev pub load_operation : ℕ → Option ComputationalType → Operation
load_operation slot None = outside
load_operation slot (Some computational) = loads computational slot

abbrev pub store_operation : ℕ → Option ComputationalType → Operation
store_operation slot None = outside
store_operation slot (Some computational) = stores computational slot

abbrev pub local_operation : ℕ → ℕ → Operation
local_operation op slot = if nat_lt op opcode.istore then load_operation slot (local_type op) else store_operation slot (local_type op)

-- ---- all instructions

unfoldable pub operation_of : Program → Location → Insn → Operation
operation_of program at (insns.Simple op) = simple_operation op at
operation_of program at (insns.Push op value) = pushes (int value)
operation_of program at (insns.Local op slot) = local_operation op slot
operation_of program at (insns.Inc slot by) = counts slot by
operation_of program at (insns.Constant place) = constant_operation at (what_at at place)
operation_of program at (insns.Constant2 place) = long_operation (what_at at place)
operation_of program at (insns.Member op place) = member_operation op at program (what_at at place)
operation_of program at (insns.Interface place count) = outside
operation_of program at (insns.Dynamic place) = outside
operation_of program at (insns.OfClass op place) = class_operation op at (what_at at place)
operation_of program at (insns.NewArray elem) = array_operation elem
operation_of program at (insns.Multi place dims) = outside
operation_of program at (insns.Jump op to) = if nat_eq op opcode.goto then jumps to else tests op to
operation_of program at (insns.Table low default arms) = indexes low default arms
operation_of program at (insns.Lookup default arms) = matches default arms
