-- References of a wrong kind in worlds. The kind of a reference is the class of what it refers to; a probe array is one of
-- booleans. That is what the check compares. So a thread may still be stuck at `baload` or `arraylength` of a probe array,
-- whose class is one that these instructions take: the machine has no operation on it but `bastore`.
use Rattle.std.specs.Prelude.{◌≡◌, ℕ, Bool, true, false, ◌&&◌, not, List, Option, Some, None, option_and_then, slice_get, codes, Contains, IsTrue}
use Rattle.jc_bytes.specs.Descriptor.{Array, field_text}
use Rattle.jc_methods.specs.ProbeMembers.{data_type}
use Rattle.jc_programs.specs.declared.program.Program.{Program}
use Rattle.jc_programs.specs.declared.run_end.Thrown.TheVariants as thrown
use Rattle.jc_programs.specs.Throwables.{name_of}
use Rattle.jc_machine_model.specs.Values.{Value, null, object, memory_error, print_stream, probes, text, is_reference}
use Rattle.jc_machine_model.specs.Heap.{HeapObject, array, throwable}
use Rattle.jc_machine_model.specs.World.{Frame, running, World}
use Rattle.jc_machine_model.specs.Step.{located, operation_at}
use Rattle.jc_refs_check.specs.Needs.{Need, needs_of}

abbrev pub class_of_object : HeapObject → List ℕ
class_of_object (array element elements) = field_text (Array element)
class_of_object (throwable c) = name_of c

-- the class of what a value refers to, if it refers to anything
abbrev pub class_of : List HeapObject → Value → Option (List ℕ)
class_of heap (object k) = option_and_then (λ x. Some (class_of_object x)) (slice_get heap k)
class_of heap memory_error = Some (name_of thrown.OutOfMemoryError)
class_of heap print_stream = Some (codes "java/io/PrintStream")
class_of heap (probes class count) = Some data_type
class_of heap (text class) = Some (codes "java/lang/String")
class_of heap _ = None

abbrev pub is_null : Value → Bool
is_null null = true
is_null _ = false

abbrev pub takes_value : List HeapObject → Need → Value → Bool
takes_value heap n v = elim (class_of heap v) [ None ↦ false | Some name ↦ n.takes name ]

-- a reference that isn't null, and not of a class that is needed
abbrev pub is_wrong : List HeapObject → Need → Value → Bool
is_wrong heap n v = is_reference v && (not (is_null v) && not (takes_value heap n v))

-- The thread runs, and stands at an instruction of the profile with such an operand.
pub record WrongReference (program : Program) (w : World) (t : ℕ) : Type 0 where
  pub top : Frame
  pub waiting : List Frame
  pub runs : slice_get w.threads t ≡ Some (running top waiting)
  pub need : Need
  pub needed : Contains (needs_of (operation_at program (located program top.method top.place))) need
  pub value : Value
  pub there : slice_get top.stack need.above ≡ Some value
  pub wrong : IsTrue (is_wrong w.shared.heap need value)
