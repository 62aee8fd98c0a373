-- Arrays of integral types, and the probe arrays of classes (JVM Specification 6.5): elements, lengths, and new arrays.
use Rattle.std.specs.Prelude.{ℕ, ℤ, pos, negsuc, ◌+◌, ◌%◌, Bool, true, false, List, [], ◌∷◌, ◌++◌, length, replicate, Option, Some, None, nat_eq, nat_lt, slice_get, slice_set, slice_index_or, if◌then◌else◌}
use Rattle.std.specs.List.{list_any}
use Rattle.std.specs.Int.{w32, cast_unsigned}
use Rattle.jc_bytes.specs.Descriptor.{FieldType, Byte, Char, Int, Long, Short, Boolean}
use Rattle.jc_programs.specs.declared.run_end.Thrown.TheVariants as thrown
use Rattle.jc_programs.specs.declared.run_end.Thrown.{Thrown}
use Rattle.jc_programs.specs.Narrowing.{narrowed}
use Rattle.jc_machine_model.specs.Values.{Value, int, long, null, object, probes}
use Rattle.jc_machine_model.specs.Heap.{HeapObject, array, has_room}
use Rattle.jc_machine_model.specs.World.{Frame, Shared}
use Rattle.jc_machine_model.specs.Results.{Result, next_with, goes_with, hits, raises, gets_stuck}

-- the two are one integral type
abbrev pub is_type : FieldType → FieldType → Bool
is_type Boolean Boolean = true
is_type Byte Byte = true
is_type Char Char = true
is_type Short Short = true
is_type Int Int = true
is_type Long Long = true
is_type _ _ = false

-- the element's value on the stack
abbrev pub element_value : FieldType → ℤ → Value
element_value Long x = long x
element_value element x = int x

-- the array has elements of one of the types
abbrev pub has_elements : List FieldType → FieldType → Bool
has_elements types element = list_any (is_type element) types

-- the index, if it is one of so many
abbrev pub index_within : ℤ → ℕ → Option ℕ
index_within (pos i) count = if nat_lt i count then Some i else None
index_within (negsuc i) count = None

-- an element, with its array
pub record Element : Type 0 where
  pub element : FieldType
  pub elements : List ℤ
  pub index : ℕ

-- what an instruction finds at an index of a reference: an element, an exception, or no array that suits it
pub data Found : Type 0 where
  found : Element → Found
  fails : Thrown → Found
  unsuited : Found

-- an element of an array
abbrev pub in_array : FieldType → List ℤ → Option ℕ → Found
in_array element elements None = fails thrown.ArrayIndexOutOfBoundsException
in_array element elements (Some i) = found (record { element = element; elements = elements; index = i })

-- of an array with elements of one of these types
abbrev pub in_heap_object : List FieldType → ℤ → Option HeapObject → Found
in_heap_object types i (Some (array element elements)) =
    if has_elements types element then in_array element elements (index_within i (length elements)) else unsuited
in_heap_object types i _ = unsuited

-- null comes before an array of other elements, and that before an index out of range
abbrev pub find_element : List FieldType → List HeapObject → Value → ℤ → Found
find_element types heap null i = fails thrown.NullPointerException
find_element types heap (object k) i = in_heap_object types i (slice_get heap k)
find_element types heap _ i = unsuited

-- the element is pushed
abbrev pub read_found : Found → List Value → Shared → Frame → Result
read_found (found e) stack s f = goes_with s f (element_value e.element (slice_index_or e.elements e.index (pos 0)) ∷ stack)
read_found (fails c) stack s f = raises c
read_found unsuited stack s f = gets_stuck

-- the index stands above the array
abbrev pub by_read : List FieldType → List Value → Shared → Frame → Result
by_read types (int i ∷ a ∷ stack) s f = read_found (find_element types s.heap a i) stack s f
by_read types _ s f = gets_stuck

-- the number that stands for the value in an array whose elements are of a type
abbrev pub element_number : FieldType → Value → Option ℤ
element_number Long (long x) = Some x
element_number Long v = None
element_number element (int x) = Some (narrowed element x)
element_number element v = None

-- the array with this number as the element
abbrev pub with_element : Element → ℤ → HeapObject
with_element e x = array e.element (slice_set e.elements e.index x)

-- the array is replaced in the heap
abbrev pub write_number : Element → Option ℤ → ℕ → List Value → Shared → Frame → Result
write_number e None k stack s f = gets_stuck
write_number e (Some x) k stack s f = goes_with (record s { heap = slice_set s.heap k (with_element e x) }) f stack

-- the value becomes the element, as its type has it
abbrev pub write_found : Found → Value → ℕ → List Value → Shared → Frame → Result
write_found (found e) v k stack s f = write_number e (element_number e.element v) k stack s f
write_found (fails c) v k stack s f = raises c
write_found unsuited v k stack s f = gets_stuck

-- An odd number stored into a probe array is a hit, and an even one makes the thread stuck. An index out of range comes
-- before both.
abbrev pub by_probe : ℕ → Option ℕ → Value → List Value → Frame → Result
by_probe class None (int x) stack f = raises thrown.ArrayIndexOutOfBoundsException
by_probe class (Some id) (int x) stack f = if nat_eq (cast_unsigned w32 x % 2) 0 then gets_stuck else hits class id (next_with f stack)
by_probe class index v stack f = gets_stuck

-- a probe array is one of booleans: bastore alone stores into it
abbrev pub write_to : List FieldType → Value → ℤ → Value → List Value → Shared → Frame → Result
write_to types null i v stack s f = raises thrown.NullPointerException
write_to types (object k) i v stack s f = write_found (find_element types s.heap (object k) i) v k stack s f
write_to types (probes class count) i v stack s f =
    if has_elements types Boolean then by_probe class (index_within i count) v stack f else gets_stuck
write_to types _ i v stack s f = gets_stuck

-- the value stands above the index, and that above the array
abbrev pub by_write : List FieldType → List Value → Shared → Frame → Result
by_write types (v ∷ int i ∷ a ∷ stack) s f = write_to types a i v stack s f
by_write types _ s f = gets_stuck

-- a new array of zeros: a negative length comes before the want of room
abbrev pub by_make_array : FieldType → List Value → Shared → Frame → Result
by_make_array element (int (negsuc n) ∷ stack) s f = raises thrown.NegativeArraySizeException
by_make_array element (int (pos n) ∷ stack) s f =
    if has_room s.heap (n + 1) then goes_with (record s { heap = s.heap ++ array element (replicate n (pos 0)) ∷ [] }) f (object (length s.heap) ∷ stack)
    else raises thrown.OutOfMemoryError
by_make_array element _ s f = gets_stuck

-- the length is pushed
abbrev pub measured : Option HeapObject → List Value → Shared → Frame → Result
measured (Some (array element elements)) stack s f = goes_with s f (int (pos (length elements)) ∷ stack)
measured _ stack s f = gets_stuck

-- of the array on top
abbrev pub by_measure : List Value → Shared → Frame → Result
by_measure (null ∷ stack) s f = raises thrown.NullPointerException
by_measure (object k ∷ stack) s f = measured (slice_get s.heap k) stack s f
by_measure _ s f = gets_stuck
