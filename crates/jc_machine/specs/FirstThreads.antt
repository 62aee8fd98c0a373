-- The arguments with which a thread begins.
use Rattle.std.specs.Prelude.{◌≡◌, ⊤, ℕ, ℤ, if◌then◌else◌, ◌≤◌, true, List, [], length, Option, Some, None}
use Rattle.jc_bytes.specs.Descriptor.{FieldType}
use Rattle.jc_methods.specs.declared.body.Body.{Body}
use Rattle.jc_methods.specs.DescriptorTypes.{method_type_in}
use Rattle.jc_machine_code.specs.declared.operation.ComputationalType.{ComputationalType}
use Rattle.jc_machine_code.specs.declared.prepared.PreparedProgram.{PreparedProgram}
use Rattle.jc_machine_code.specs.Prepared.{IsPrepared}
use Rattle.jc_machine_turn.specs.Parameters.{AreParameters}
use Rattle.jc_programs.specs.declared.program.Program.{Program}
use Rattle.jc_programs.specs.declared.run_end.Entry.{Entry}
use Rattle.jc_programs.specs.Members.{body_of}
use Rattle.jc_programs.specs.Entries.{are_arguments}
use Rattle.jc_machine_model.specs.Values.{Value, is_pair}
use Rattle.jc_machine_model.specs.Calls.{spread_values, locals_for}
use Rattle.jc_machine_model.specs.Begin.{argument_values, first_thread}
use Rattle.jc_machine_model.specs.Programs.{IsProgram}
use Rattle.jc_machine_model.specs.Fits.{FitsThread}
use Rattle.jc_machine.specs.Threads.{ThreadFrames}

-- how many local variables a value takes (JVM Specification 2.6.1)
abbrev pub width : Value → ℕ
width v = if is_pair v then 2 else 1

-- the frames with the numbers, as values of these types, in the first local variables of the frame on top, and none behind
abbrev pub with_arguments : List FieldType → List ℤ → ThreadFrames → ThreadFrames
with_arguments types numbers frames =
    record frames { top = record frames.top { locals = locals_for (length frames.top.locals) (argument_values types numbers) } }

-- the method, if there is one, takes the numbers
abbrev pub Takes : Option Body → List ℤ → Type 0
Takes None numbers = ⊤
Takes (Some b) numbers = are_arguments (method_type_in b.desc).parameters numbers ≡ true

-- the numbers are values of the parameters' types, for which there are local variables
pub record FitParameters (parameters : List (Option ComputationalType)) (numbers : List ℤ) (locals : List (Option Value)) : Type 0 where
  pub types : List FieldType
  pub are : AreParameters types parameters
  pub taken : are_arguments types numbers ≡ true
  pub within : length (spread_values (argument_values types numbers)) ≤ length locals
  pub few : length locals ≤ 1004

-- the program's thread begins with the method, which takes the numbers
pub record BeginsWith (program : Program) (prepared : PreparedProgram) (method : Entry) (numbers : List ℤ) : Type 0 where
  pub program_is : IsProgram program
  pub prepared_is : IsPrepared program prepared
  pub takes : Takes (body_of program method) numbers
  pub fits : FitsThread program [] (first_thread program method numbers)
