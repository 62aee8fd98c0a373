-- The state after an instruction (JVM Specification 4.10.1.9, 6.5): what each instruction does to types.
use Rattle.std.specs.Prelude.{ℕ, Bool, false, ◌&&◌, ◌||◌, List, [], ◌∷◌, ◌++◌, length, map, replicate, Option, Some, None, option_and_then, nat_eq}
use Rattle.std.specs.Prelude.{nat_lt, nat_le, slice_get, codes, bytes_eq, if◌then◌else◌}
use Rattle.jc_methods.specs.Opcode as opcode
use Rattle.jc_methods.specs.declared.insn.Insn.{Insn}
use Rattle.jc_methods.specs.declared.insn.Insn.TheVariants as insns
use Rattle.jc_methods.specs.declared.body.Use.{Use}
use Rattle.jc_methods.specs.declared.body.What.{What}
use Rattle.jc_methods.specs.declared.body.What.TheVariants as whats
use Rattle.jc_methods.specs.declared.body.Body.{Body}
use Rattle.jc_bytes.specs.Descriptor.{FieldType, MethodType}
use Rattle.jc_methods.specs.DescriptorTypes.{field_type_in, method_type_in}
use Rattle.jc_methods.specs.Flow.{is_return}
use Rattle.jc_methods.specs.WellMade.{what_used}
use Rattle.jc_methods.specs.VerificationTypes.{VerificationType, int, float, double, long, object, TypeState}
use Rattle.jc_methods.specs.EntryState.{held_of}
use Rattle.jc_kinds_after.specs.declared.want.Want.{Want}
use Rattle.jc_kinds_after.specs.declared.want.Want.TheVariants as wants
use Rattle.jc_kinds_after.specs.Step.{Gives, kind, StackEffect, Step, moves, loads, stores, counts, picks, makes, builds, fails, Ground, apply}
use Rattle.jc_kinds_after.specs.Table.{form, gives, takes, turns, forms_at}

-- ---- types of the language

-- The operand for a value of a verification type. Classes aren't compared: any reference will do for any other.
abbrev pub want_for : VerificationType → Want
want_for int = wants.Int
want_for float = wants.Float
want_for long = wants.Long
want_for double = wants.Double
want_for _ = wants.Reference

-- the operand for a value of a type
abbrev pub want_of : FieldType → Want
want_of type = want_for (held_of type)

-- the result of a call, none for `void`
abbrev pub result_of : Option FieldType → List Gives
result_of None = []
result_of (Some type) = kind (held_of type) ∷ []

-- ---- fields and calls

-- getstatic, putstatic, getfield, putfield, of a field of this type. The object whose field is put may be `this`
-- before the constructor of the superclass was called
abbrev pub field_step : ℕ → Option FieldType → Step
field_step op None = fails
field_step op (Some type) =
    if nat_eq op opcode.getstatic then moves (gives (held_of type))
    else if nat_eq op opcode.putstatic then moves (takes (want_of type ∷ []))
    else if nat_eq op opcode.getfield then moves (turns (wants.Reference ∷ []) (held_of type))
    else moves (takes (wants.Target ∷ want_of type ∷ []))

-- the arguments, and the result
abbrev pub call_form : MethodType → StackEffect
call_form type = form (map want_of type.parameters) (result_of type.returns)

-- a call without an object
abbrev pub static_step : MethodType → Step
static_step type = moves (call_form type ∷ [])

-- a call on an object below the arguments
abbrev pub object_step : MethodType → Step
object_step type = moves (form (wants.Reference ∷ map want_of type.parameters) (result_of type.returns) ∷ [])

-- invokevirtual, invokespecial and invokestatic, of a method with this name
abbrev pub method_step : ℕ → List ℕ → MethodType → Step
method_step op name type =
    if nat_eq op opcode.invokestatic then static_step type
    else if nat_eq op opcode.invokespecial && bytes_eq name (codes "<init>") then builds (call_form type)
    else object_step type

abbrev pub member_step : ℕ → Option What → Step
member_step op (Some (whats.Field class name desc)) = if nat_le op opcode.putfield then field_step op (field_type_in desc) else fails
member_step op (Some (whats.Method class name desc)) = if nat_le op opcode.putfield then fails else method_step op name (method_type_in desc)
member_step op _ = fails

abbrev pub interface_step : Option What → Step
interface_step (Some (whats.Method class name desc)) = object_step (method_type_in desc)
interface_step _ = fails

abbrev pub dynamic_step : Option What → Step
dynamic_step (Some (whats.Call name desc)) = static_step (method_type_in desc)
dynamic_step _ = fails

-- ---- constants

abbrev pub computed_step : Option FieldType → Step
computed_step None = fails
computed_step (Some type) = moves (gives (held_of type))

abbrev pub constant_step : Option What → Step
constant_step (Some (whats.Int value)) = moves (gives int)
constant_step (Some (whats.Long value)) = moves (gives long)
constant_step (Some whats.Float) = moves (gives float)
constant_step (Some whats.Double) = moves (gives double)
constant_step (Some whats.Text) = moves (gives (object (codes "java/lang/String")))
constant_step (Some (whats.Class name)) = moves (gives (object (codes "java/lang/Class")))
constant_step (Some whats.MethodKind) = moves (gives (object (codes "java/lang/invoke/MethodType")))
constant_step (Some whats.Handle) = moves (gives (object (codes "java/lang/invoke/MethodHandle")))
constant_step (Some (whats.Computed name desc bootstrap)) = computed_step (field_type_in desc)
constant_step _ = fails

-- ---- classes and arrays

-- the name of an array of objects of this class, or of arrays with this name (JVM Specification 4.4.1)
abbrev pub is_array_class : List ℕ → Bool
is_array_class [] = false
is_array_class (b ∷ bytes) = nat_eq b 91

abbrev pub array_of : List ℕ → List ℕ
array_of name = if is_array_class name then 91 ∷ name else 91 ∷ 76 ∷ (name ++ 59 ∷ [])

-- no Class entry can have a longer name
abbrev pub array_step : List ℕ → Step
array_step name = if nat_le (length (array_of name)) 65535 then moves (turns (wants.Int ∷ []) (object (array_of name))) else fails

-- new, anewarray, checkcast, instanceof
abbrev pub class_step : ℕ → Option What → Step
class_step op (Some (whats.Class name)) =
    if nat_eq op opcode.new then makes
    else if nat_eq op opcode.anewarray then array_step name
    else if nat_eq op opcode.checkcast then moves (turns (wants.Reference ∷ []) (object name))
    else moves (turns (wants.Reference ∷ []) int)
class_step op _ = fails

-- the letter of the elements' type, by the code of newarray (JVM Specification 6.5, newarray)
abbrev pub element_letter : ℕ → ℕ
element_letter elem =
    if nat_eq elem 4 then 90
    else if nat_eq elem 5 then 67
    else if nat_eq elem 6 then 70
    else if nat_eq elem 7 then 68
    else if nat_eq elem 8 then 66
    else if nat_eq elem 9 then 83
    else if nat_eq elem 10 then 73
    else 74

abbrev pub multi_step : Option What → ℕ → Step
multi_step (Some (whats.Class name)) dims = moves (turns (replicate dims wants.Int) (object name))
multi_step _ dims = fails

-- ---- returns

-- the opcode of the return of a value of a verification type
abbrev pub return_for : VerificationType → ℕ
return_for int = opcode.ireturn
return_for long = opcode.lreturn
return_for float = opcode.freturn
return_for double = opcode.dreturn
return_for _ = opcode.areturn

-- the opcode of the return of a method with this result
abbrev pub return_op : Option FieldType → ℕ
return_op None = opcode.return
return_op (Some type) = return_for (held_of type)

-- it has to be the one for the type that the method returns
abbrev pub return_step : Option FieldType → ℕ → Step
return_step returns op = if nat_eq op (return_op returns) then moves (forms_at op) else fails

-- ---- the table

abbrev pub simple_step : Option FieldType → ℕ → Step
simple_step returns op =
    if nat_eq op opcode.aaload then picks
    else if is_return op then return_step returns op
    else moves (forms_at op)

-- what a load or a store of a local variable moves
abbrev pub local_want : ℕ → Want
local_want op =
    if nat_eq op opcode.iload || nat_eq op opcode.istore then wants.Int
    else if nat_eq op opcode.lload || nat_eq op opcode.lstore then wants.Long
    else if nat_eq op opcode.fload || nat_eq op opcode.fstore then wants.Float
    else if nat_eq op opcode.dload || nat_eq op opcode.dstore then wants.Double
    else wants.Anything

-- iload to aload, and istore to astore
abbrev pub local_step : ℕ → ℕ → Step
local_step op slot = if nat_lt op opcode.istore then loads slot (local_want op) else stores slot (local_want op)

-- what an instruction does, by what stands in the pool and by what the method returns
abbrev pub step_of : List Use → Option FieldType → Insn → Step
step_of uses returns (insns.Simple op) = simple_step returns op
step_of uses returns (insns.Push op value) = moves (forms_at op)
step_of uses returns (insns.Local op slot) = local_step op slot
step_of uses returns (insns.Inc slot by) = counts slot
step_of uses returns (insns.Constant place) = constant_step (what_used uses place)
step_of uses returns (insns.Constant2 place) = constant_step (what_used uses place)
step_of uses returns (insns.Member op place) = member_step op (what_used uses place)
step_of uses returns (insns.Interface place count) = interface_step (what_used uses place)
step_of uses returns (insns.Dynamic place) = dynamic_step (what_used uses place)
step_of uses returns (insns.OfClass op place) = class_step op (what_used uses place)
step_of uses returns (insns.NewArray elem) = moves (turns (wants.Int ∷ []) (object (91 ∷ element_letter elem ∷ [])))
step_of uses returns (insns.Multi place dims) = multi_step (what_used uses place) dims
step_of uses returns (insns.Jump op to) = moves (forms_at op)
step_of uses returns (insns.Table low default arms) = moves (forms_at opcode.tableswitch)
step_of uses returns (insns.Lookup default arms) = moves (forms_at opcode.lookupswitch)

-- ---- in a body

abbrev pub insn_at : Body → ℕ → Option Insn
insn_at b i = slice_get b.code i

abbrev pub class_in : Option What → List ℕ
class_in (Some (whats.Class name)) = name
class_in _ = []

-- the class of the objects that an instruction makes
abbrev pub new_class : List Use → Option Insn → List ℕ
new_class uses (Some (insns.OfClass op place)) = class_in (what_used uses place)
new_class uses _ = []

abbrev pub ground_of : Body → ℕ → Ground
ground_of b i = record { most = b.max_stack; place = i; owner = b.owner; class_at = λ at. new_class b.uses (insn_at b at) }

abbrev pub returns_of : Body → Option FieldType
returns_of b = (method_type_in b.desc).returns

-- the state after the instruction with this number, from the state before it, if there is one
unfoldable pub after_of : Body → ℕ → TypeState → Option TypeState
after_of b i s = option_and_then (λ insn. apply (ground_of b i) (step_of b.uses (returns_of b) insn) s) (insn_at b i)
