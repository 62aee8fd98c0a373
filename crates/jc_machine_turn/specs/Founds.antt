-- What an instruction finds at an index of an object, as the code tells it.
use Rattle.std.specs.Prelude.{◌≡◌, ℕ, ℤ, ◌<◌, List, length, drop, Some, slice_get}
use Rattle.jc_bytes.specs.Descriptor.{FieldType}
use Rattle.jc_programs.specs.declared.run_end.Thrown.TheVariants as thrown
use Rattle.jc_machine_model.specs.Values.{Value}
use Rattle.jc_machine_model.specs.Heap.{HeapObject, array}
use Rattle.jc_machine_model.specs.World.{Frame, Shared}
use Rattle.jc_machine_model.specs.Results.{Result}
use Rattle.jc_machine_model.specs.Arrays as arrays
use Rattle.jc_machine_memory.specs.Heaps.{element_type}
use Rattle.jc_machine_turn.specs.declared.arrays.Found.{Found}
use Rattle.jc_machine_turn.specs.declared.arrays.Found.TheVariants as founds

-- an element of an array of the type
abbrev pub HasElementAt : List HeapObject → ℕ → FieldType → ℕ → Type 0
HasElementAt heap number type index = (elements : List ℤ) × (slice_get heap number ≡ Some (array type elements)) × (index < length elements)

-- the result of storing the value, which stands on top, into the element at the index of the array with the number
abbrev pub IsElementStored : FieldType → ℕ → ℕ → Value → Shared → Frame → Result → Type 0
IsElementStored type number index v s f result =
    (elements : List ℤ) → slice_get s.heap number ≡ Some (array type elements)
    → result ≡ arrays.write_number (record { element = type; elements = elements; index = index }) (arrays.element_number type v) number (drop 3 f.stack) s f

abbrev pub Finds : Found → List HeapObject → ℕ → arrays.Found → Type 0
Finds (founds.Within element index) heap number there =
    (elements : List ℤ) × (slice_get heap number ≡ Some (array (element_type element) elements)) × (index < length elements)
    × (there ≡ arrays.found (record { element = element_type element; elements = elements; index = index }))
Finds founds.Outside heap number there = there ≡ arrays.fails thrown.ArrayIndexOutOfBoundsException
Finds founds.Unsuited heap number there = there ≡ arrays.unsuited
