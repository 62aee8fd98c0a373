-- The heap in blocks of words. An array is a word for the type of its elements, and then a word for each element; a
-- throwable is a word for its class.
use Rattle.std.specs.Prelude.{◌≡◌, ⊤, ℕ, ℤ, pos, ◌-◌, ◌%◌, ◌^◌, ◌<◌, List, [], ◌∷◌, length, map, Option, Some, None, nat_eq, slice_set, slice_index_or, if◌then◌else◌}
use Rattle.std.specs.Int.{w32, w64, cast_signed}
use Rattle.jc_bytes.specs.Descriptor.{FieldType, Byte, Char, Int, Long, Short, Boolean}
use Rattle.jc_programs.specs.declared.run_end.Thrown.{Thrown}
use Rattle.jc_programs.specs.declared.run_end.Thrown.TheVariants.{Throwable}
use Rattle.jc_programs.specs.Throwables.{throwables}
use Rattle.jc_region.specs.Memory.{RegionMemory}
use Rattle.jc_region.specs.Blocks.{Blocks}
use Rattle.jc_machine_memory.specs.declared.element.Element.{Element}
use Rattle.jc_machine_memory.specs.declared.element.Element.TheVariants as elements
use Rattle.jc_machine_memory.specs.declared.heap.HeapObject as told
use Rattle.jc_machine_memory.specs.declared.heap.HeapObject.TheVariants as tolds
use Rattle.jc_machine_model.specs.Heap.{HeapObject, array, throwable, words_of, most_words}

abbrev pub element_type : Element → FieldType
element_type elements.Boolean = Boolean
element_type elements.Char = Char
element_type elements.Byte = Byte
element_type elements.Short = Short
element_type elements.Int = Int
element_type elements.Long = Long

-- the type of elements with a code (JVM Specification 6.5, newarray)
abbrev pub element_at : ℕ → Option FieldType
element_at code =
    if nat_eq code 4 then Some Boolean
    else if nat_eq code 5 then Some Char
    else if nat_eq code 8 then Some Byte
    else if nat_eq code 9 then Some Short
    else if nat_eq code 10 then Some Int
    else if nat_eq code 11 then Some Long
    else None

-- the number in the word of an element: of 64 bits in an array of longs, else in the low 32
abbrev pub number_in : FieldType → ℕ → ℤ
number_in Long word = cast_signed w64 word
number_in element word = cast_signed w32 (word % 2 ^ 32)

-- the class of throwables of a word
abbrev pub class_in : ℕ → Thrown
class_in word = slice_index_or throwables (word - 16) Throwable

abbrev pub object_with : Option FieldType → ℕ → List ℕ → HeapObject
object_with (Some element) head words = array element (map (number_in element) words)
object_with None head words = throwable (class_in head)

-- the array or throwable in a block
abbrev pub object_of : List ℕ → HeapObject
object_of [] = throwable Throwable
object_of (head ∷ words) = object_with (element_at head) head words

-- the arrays and throwables in the order of their blocks
abbrev pub objects_of : Blocks → List HeapObject
objects_of heap = map object_of heap.blocks

-- they, and the memory of the blocks
pub record HeapSeen : Type 0 where
  pub objects : List HeapObject
  pub memory : RegionMemory

abbrev pub heap_of : Blocks → HeapSeen
heap_of heap = record { objects = objects_of heap; memory = heap.memory }

-- each block has as many words as its object takes
abbrev pub AreObjects : List (List ℕ) → Type 0
AreObjects [] = ⊤
AreObjects (block ∷ blocks) = (words_of (object_of block) ≡ length block) × AreObjects blocks

pub record IsHeap (heap : Blocks) : Type 0 where
  pub most : heap.most ≡ most_words
  pub objects : AreObjects heap.blocks

-- What is told of what stands there: the class of a throwable, or the type and the number of an array's elements. Nothing
-- is told exactly where nothing stands.
abbrev pub TellsOf : Option told.HeapObject → Option HeapObject → Type 0
TellsOf None there = there ≡ None
TellsOf (Some (tolds.Array element count)) there =
    (elements : List ℤ) × (there ≡ Some (array (element_type element) elements)) × (length elements ≡ count)
TellsOf (Some (tolds.Throwable c)) there = there ≡ Some (throwable c)

-- an array has fewer elements than the heap has words
abbrev pub HasFewElements : told.HeapObject → Type 0
HasFewElements (tolds.Array element count) = count < most_words
HasFewElements (tolds.Throwable c) = ⊤

-- the object with a number
abbrev pub object_at : List HeapObject → ℕ → HeapObject
object_at heap k = slice_index_or heap k (throwable Throwable)

-- it is an array of elements of the type, and has one with this number
abbrev pub HasElement : HeapObject → FieldType → ℕ → Type 0
HasElement (array type elements) t i = (type ≡ t) × (i < length elements)
HasElement (throwable c) t i = ⊥

abbrev pub element_in : HeapObject → ℕ → ℤ
element_in (array type elements) i = slice_index_or elements i (pos 0)
element_in (throwable c) i = pos 0

-- with a number as the element
abbrev pub with_number : HeapObject → ℕ → ℤ → HeapObject
with_number (array type elements) i n = array type (slice_set elements i n)
with_number (throwable c) i n = throwable c

-- it is an array of elements of another type than long, and has one with this number
abbrev pub HasIntElement : HeapObject → ℕ → Type 0
HasIntElement (array Long elements) i = ⊥
HasIntElement (array type elements) i = i < length elements
HasIntElement (throwable c) i = ⊥

-- the objects with a number as an element of one of them
abbrev pub with_element_at : List HeapObject → ℕ → ℕ → ℤ → List HeapObject
with_element_at heap k i n = slice_set heap k (with_number (object_at heap k) i n)
