-- The world of a case as the machine keeps it.
use Rattle.std.specs.Prelude.{◌≡◌, List, []}
use Rattle.jc_machine_code.specs.declared.prepared.PreparedProgram.{PreparedProgram}
use Rattle.jc_machine_code.specs.Prepared.{IsPrepared}
use Rattle.jc_region.specs.Memory.{Allocation}
use Rattle.jc_machine_turn.specs.Contents.{SharedMemory}
use Rattle.jc_programs.specs.declared.program.Program.{Program}
use Rattle.jc_machine_model.specs.World.{Thread, Shared, World}
use Rattle.jc_machine_model.specs.Fits.{FitsWorld}
use Rattle.jc_machine.specs.declared.integral_fields.IntegralField.{IntegralField}
use Rattle.jc_machine.specs.IntegralFields.{integral_fields}
use Rattle.jc_machine.specs.Threads.{FramesMemory}

-- the memory of the list of static fields, of the list of threads, of the frames of each thread, and of what they share
pub record MachineMemory : Type 0 where
  pub fields : Allocation
  pub stacks : Allocation
  pub frames : List FramesMemory
  pub shared : SharedMemory

-- the program that it was made for, as turns use it, and its static fields of integral types; the threads; what they share; and
-- the memory in which all but the program lies
pub record Machine : Type 0 where
  pub prepared : PreparedProgram
  pub fields : List IntegralField
  pub threads : List Thread
  pub shared : Shared
  pub memory : MachineMemory

-- Its world. Hits go to a sink and aren't kept.
abbrev pub world_of : Machine → World
world_of m = record { threads = m.threads; shared = m.shared; hits = [] }

-- no memory was taken for it: all lies where it lay, and the program is the one that it was
abbrev pub KeepsMemory : Machine → Machine → Type 0
KeepsMemory before after = (after.prepared ≡ before.prepared) × (after.memory ≡ before.memory)

-- it was made for the program, and its world fits it
pub record Fits (program : Program) (m : Machine) : Type 0 where
  pub prepared : IsPrepared program m.prepared
  pub fields : m.fields ≡ integral_fields program
  pub world : FitsWorld program (world_of m)
