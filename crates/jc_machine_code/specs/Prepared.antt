-- A program prepared for the machine.
use Rattle.std.specs.Prelude.{◌≡◌, ℕ, Bool, true, false, ◌&&◌, List, length, map, Option, Some, None, nat_le, nat_lt, slice_get, slice_index_or, find}
use Rattle.std.specs.Option.{option_map}
use Rattle.jc_methods.specs.declared.insn.Insn.{Insn}
use Rattle.jc_methods.specs.declared.body.Handler.{Handler}
use Rattle.jc_methods.specs.declared.body.Body.{Body}
use Rattle.jc_methods.specs.DescriptorTypes.{method_type_in}
use Rattle.jc_programs.specs.declared.program.Program.{Program}
use Rattle.jc_programs.specs.declared.program.Linked.{Linked}
use Rattle.jc_programs.specs.declared.run_end.Entry.{Entry}
use Rattle.jc_programs.specs.declared.run_end.Thrown.{Thrown}
use Rattle.jc_programs.specs.Members.{class_at}
use Rattle.jc_programs.specs.Throwables.{name_of, is_named_in}
use Rattle.jc_machine_model.specs.Values.{Value, int, long, null, computational_type}
use Rattle.jc_machine_model.specs.Methods.{is_init_name, is_enterable}
use Rattle.jc_machine_model.specs.Begin.{first_value}
use Rattle.jc_machine_model.specs.Step.{catches, LocatedInsn, located_in_body, operation_at}
use Rattle.jc_machine_model.specs.Locked.{locked_call}
use Rattle.jc_machine_code.specs.declared.operation.Operation.{Operation}
use Rattle.jc_machine_code.specs.declared.operation.Operation.TheVariants as shown
use Rattle.jc_machine_code.specs.declared.prepared.PreparedOperation.{PreparedOperation}
use Rattle.jc_machine_code.specs.declared.prepared.PreparedOperation.TheVariants as table
use Rattle.jc_machine_code.specs.declared.prepared.Catches.{Catches}
use Rattle.jc_machine_code.specs.declared.prepared.Catches.TheVariants as caught
use Rattle.jc_machine_code.specs.declared.prepared.PreparedRow.{PreparedRow}
use Rattle.jc_machine_code.specs.declared.prepared.PreparedMethod.{PreparedMethod}
use Rattle.jc_machine_code.specs.declared.prepared.PreparedClass.{PreparedClass}
use Rattle.jc_machine_code.specs.declared.prepared.PreparedProgram.{PreparedProgram}
use Rattle.jc_machine_code.specs.declared.prepared.FirstValue.{FirstValue}
use Rattle.jc_machine_code.specs.declared.prepared.FirstValue.TheVariants as first
use Rattle.jc_machine_code.specs.Types.{computational}
use Rattle.jc_machine_code.specs.Shown.{Shows}

-- one list has as many items as the other, and each is what the one at the same place makes of it
pub record Correspond {X Y : Type 0} (R : ℕ → X → Y → Type 0) (xs : List X) (ys : List Y) : Type 0 where
  pub length_is : length ys ≡ length xs
  pub each : (i : ℕ) (x : X) (y : Y) → slice_get xs i ≡ Some x → slice_get ys i ≡ Some y → R i x y

-- ---- exception tables

-- the class, or one of its superclasses, is caught
abbrev pub catches_class : Catches → Thrown → Bool
catches_class caught.All c = true
catches_class (caught.Class d) c = is_named_in c (name_of d)
catches_class caught.Nothing c = false

-- the row catches what this row of the body catches, in the same places, with the same handler
pub record IsRow (b : Body) (i : ℕ) (row : Handler) (r : PreparedRow) : Type 0 where
  pub start : r.start ≡ row.start
  pub end : r.end ≡ row.end
  pub target : r.target ≡ row.target
  pub catches : (c : Thrown) → catches_class r.catches c ≡ catches b row c

-- the row holds the instruction, and catches the class
abbrev pub row_handles : ℕ → Thrown → PreparedRow → Bool
row_handles place c r = nat_le r.start place && (nat_lt place r.end && catches_class r.catches c)

-- where the first row leads that does
abbrev pub handling : List PreparedRow → ℕ → Thrown → Option ℕ
handling rows place c = option_map (λ (r : PreparedRow). r.target) (find (row_handles place c) rows)

-- ---- instructions

-- what it is to the machine, whose threads take no locks
abbrev pub plain_of : PreparedOperation → Operation
plain_of (table.Plain operation) = operation
plain_of (table.Locked callee) = shown.Outside

-- the synchronized method that it calls
abbrev pub locked_of : PreparedOperation → Option Entry
locked_of (table.Plain operation) = None
locked_of (table.Locked callee) = Some callee

-- what stands at the place
abbrev pub prepared_at : List PreparedOperation → ℕ → PreparedOperation
prepared_at operations place = slice_index_or operations place (table.Plain shown.Outside)

-- it shows what the instruction is, if there is one, and which synchronized method it calls
pub record Tells (program : Program) (insn : Option LocatedInsn) (operation : PreparedOperation) : Type 0 where
  pub shows : Shows (plain_of operation) (operation_at program insn)
  pub locked : locked_of operation ≡ locked_call program insn

-- ---- methods

-- it tells of the instruction at the place of the body
abbrev pub TellsInsn : Program → ℕ → Linked → Body → ℕ → Insn → PreparedOperation → Type 0
TellsInsn program class c b place insn operation = Tells program (located_in_body class c place b (Some insn)) operation

pub record IsPreparedMethod (program : Program) (class : ℕ) (c : Linked) (i : ℕ) (b : Body) (m : PreparedMethod) : Type 0 where
  pub operations : Correspond (TellsInsn program class c b) b.code m.operations
  pub parameters : map (option_map computational) m.parameters ≡ map computational_type (method_type_in b.desc).parameters
  pub max_locals : m.max_locals ≡ b.max_locals
  pub is_init : m.is_init ≡ is_init_name b.name
  pub is_enterable : m.is_enterable ≡ is_enterable c b
  pub rows : Correspond (IsRow b) b.handlers m.rows

-- it is the method with these numbers
pub record IsMethodOf (program : Program) (method : Entry) (m : PreparedMethod) : Type 0 where
  pub linked : Linked
  pub class_is : class_at program method.class ≡ Some linked
  pub body : Body
  pub body_is : slice_get linked.bodies method.method ≡ Some body
  pub prepared : IsPreparedMethod program method.class linked method.method body m

-- ---- classes

abbrev pub value_of : FirstValue → Value
value_of (first.Int x) = int x
value_of (first.Long x) = long x
value_of first.Null = null

pub record IsPreparedClass (program : Program) (class : ℕ) (c : Linked) (p : PreparedClass) : Type 0 where
  pub methods : Correspond (IsPreparedMethod program class c) c.bodies p.methods
  pub statics : map value_of p.statics ≡ map first_value c.statics
  pub probes : p.probes ≡ c.probes

-- it is the program, prepared
pub record IsPrepared (program : Program) (prepared : PreparedProgram) : Type 0 where
  pub classes : Correspond (IsPreparedClass program) program.classes prepared.classes
