-- What all threads share, as the machine keeps it.
use Rattle.std.specs.Prelude.{◌≡◌, ◌≤◌, ℕ, false, List, [], length, map, take}
use Rattle.std.specs.Global.{Vec}
use Rattle.jc_region.specs.Memory.{Allocation, allocation_of, RegionMemory}
use Rattle.jc_machine_model.specs.World as world
use Rattle.jc_machine_model.specs.Values.{Value}
use Rattle.jc_machine_model.specs.Operations.{FieldAt}
use Rattle.jc_machine_code.specs.declared.prepared.PreparedClass.{PreparedClass}
use Rattle.jc_machine_code.specs.Prepared.{value_of as first_value_of}
use Rattle.jc_machine_memory.specs.declared.value.Value as kept
use Rattle.jc_machine_memory.specs.Values.{value_of}
use Rattle.jc_machine_turn.specs.declared.shared.Shared.TheInside.{Inside}

-- the values of static fields, by class and field
abbrev pub statics_of : List (Vec kept.Value) → List (List Value)
statics_of statics = map (λ (c : Vec kept.Value). map value_of c.items) statics

-- the static field with a number, of the class with a number
abbrev pub field_at : ℕ → ℕ → FieldAt
field_at class field = record { class = class; field = field }

-- the memory of the values of each class
abbrev pub memories_of : List (Vec kept.Value) → List Allocation
memories_of statics = map (λ (c : Vec kept.Value). allocation_of c) statics

-- the memory of the list of classes, of the values of each class, of the heap and of the output
pub record SharedMemory : Type 0 where
  pub classes : Allocation
  pub statics : List Allocation
  pub heap : RegionMemory
  pub output : Allocation

-- what all threads share, and the memory in which it lies
pub record SharedSeen : Type 0 where
  pub content : world.Shared
  pub memory : SharedMemory

abbrev pub content_of : Inside → world.Shared
content_of s =
    record { statics = statics_of s.statics.items; heap = s.heap.objects; output = take s.printed s.output.items; raised = s.raised }

abbrev pub memory_of : Inside → SharedMemory
memory_of s = record {
  classes = allocation_of s.statics;
  statics = memories_of s.statics.items;
  heap = s.heap.memory;
  output = allocation_of s.output;
}

abbrev pub shared_of : Inside → SharedSeen
shared_of s = record { content = content_of s; memory = memory_of s }

-- the output has as many bytes as a case may print, and those that were printed are among them
pub record IsShared (s : Inside) : Type 0 where
  pub whole : length s.output.items ≡ 1048576
  pub within : s.printed ≤ 1048576

-- the values with which the static fields of prepared classes begin
abbrev pub first_statics_of : List PreparedClass → List (List Value)
first_statics_of classes = map (λ (c : PreparedClass). map first_value_of c.statics) classes

-- they, no object and no output
abbrev pub first_shared : List PreparedClass → world.Shared
first_shared classes = record { statics = first_statics_of classes; heap = []; output = []; raised = false }
