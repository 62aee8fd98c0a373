-- What an instruction is to the machine, once the places in the constant pool are looked up.
use Rattle.std.specs.Prelude.{ℕ, ℤ, List, Option}
use Rattle.jc_bytes.specs.Descriptor.{FieldType}
use Rattle.jc_methods.specs.declared.insn.Arm.{Arm}
use Rattle.jc_programs.specs.declared.program.ProbeInit.{ProbeInit}
use Rattle.jc_programs.specs.declared.run_end.Entry.{Entry}
use Rattle.jc_programs.specs.declared.run_end.Thrown.{Thrown}
use Rattle.jc_machine_model.specs.Values.{Value, ComputationalType}

-- a static field, by the numbers of its class and of itself
pub record FieldAt : Type 0 where
  pub class : ℕ
  pub field : ℕ

-- what println prints
pub data Printed : Type 0 where
  an_int_line : Printed
  a_long_line : Printed
  a_boolean_line : Printed
  an_empty_line : Printed

pub data Operation : Type 0 where
  -- bipush, sipush, ldc of an int, ldc2_w of a long, getstatic of the print stream, ldc of a text, ldc of the constant by which a
  -- class gets its probe array
  pushes : Value → Operation
  -- what reads and writes the operand stack alone
  computes : (op : ℕ) → Operation
  loads : ComputationalType → (slot : ℕ) → Operation
  stores : ComputationalType → (slot : ℕ) → Operation
  counts : (slot : ℕ) → (by : ℤ) → Operation
  -- a conditional jump, goto, tableswitch and lookupswitch
  tests : (op to : ℕ) → Operation
  jumps : (to : ℕ) → Operation
  indexes : (low : ℤ) → (default : ℕ) → List ℕ → Operation
  matches : (default : ℕ) → List Arm → Operation
  -- the element of an array that has elements of one of these types
  reads : List FieldType → Operation
  writes : List FieldType → Operation
  makes_array : (element : FieldType) → Operation
  measures : Operation
  -- getstatic and putstatic of a field of a type
  gets : FieldAt → FieldType → Operation
  puts : FieldAt → FieldType → Operation
  -- invokestatic of a method with these parameters, whose frame has so many local variables
  invokes : Entry → (parameters : List FieldType) → (max_locals : ℕ) → Operation
  -- new, and a call of the constructor, of a throwable
  makes : Thrown → Operation
  builds : Thrown → Operation
  prints : Printed → Operation
  -- the call by which a class gets its probe array
  fetches : (class : ℕ) → ProbeInit → Operation
  -- checkcast of the probe array of a class
  casts : (class : ℕ) → Operation
  -- the return of a value, of the type that the method returns, and that of none
  returns : ComputationalType → Option FieldType → Operation
  returns_nothing : Operation
  throws_top : Operation
  outside : Operation
