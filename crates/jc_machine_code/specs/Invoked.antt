-- What calls and switches are to the machine.
use Rattle.std.specs.Prelude.{◌≡◌, ⊤, ℕ, true, List, Some, slice_get}
use Rattle.jc_bytes.specs.Descriptor.{FieldType}
use Rattle.jc_methods.specs.declared.insn.Insn.{Insn}
use Rattle.jc_methods.specs.declared.body.Body.{Body}
use Rattle.jc_methods.specs.DescriptorTypes.{method_type_in}
use Rattle.jc_programs.specs.declared.program.Program.{Program}
use Rattle.jc_programs.specs.declared.program.Linked.{Linked}
use Rattle.jc_programs.specs.declared.run_end.Entry.{Entry}
use Rattle.jc_programs.specs.Members.{class_at}
use Rattle.jc_plan.specs.Chosen.{key_target}
use Rattle.jc_machine_model.specs.Methods.{is_enterable}
use Rattle.jc_machine_model.specs.World.{Frame, Shared}
use Rattle.jc_machine_model.specs.Operations as operations
use Rattle.jc_machine_model.specs.Jumps.{by_switch}
use Rattle.jc_machine_model.specs.Perform.{perform}
use Rattle.jc_machine_code.specs.declared.operation.Operation.{Operation}
use Rattle.jc_machine_code.specs.declared.operation.Operation.TheVariants as shown

-- a method of the program that a thread may enter, with these parameters and so many local variables
pub record Invoked (program : Program) (callee : Entry) (parameters : List FieldType) (max_locals : ℕ) : Type 0 where
  pub linked : Linked
  pub class_is : class_at program callee.class ≡ Some linked
  pub body : Body
  pub body_is : slice_get linked.bodies callee.method ≡ Some body
  pub enterable : is_enterable linked body ≡ true
  pub parameters_are : parameters ≡ (method_type_in body.desc).parameters
  pub max_locals_is : max_locals ≡ body.max_locals

-- a tableswitch or a lookupswitch
abbrev pub IsSwitch : Operation → Type 0
IsSwitch shown.Indexes = ⊤
IsSwitch shown.Matches = ⊤
IsSwitch operation = ⊥

-- a turn at the operation goes on where the instruction leads with the key
abbrev pub GoesByKey : operations.Operation → Insn → Shared → Frame → Type 0
GoesByKey operation insn s f = perform operation s f ≡ by_switch (key_target insn) f.stack s f
