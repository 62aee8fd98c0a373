-- Throwables, the print stream, and the probe array of a class.
use Rattle.std.specs.Prelude.{ℕ, ℤ, pos, ◌+◌, ◌%◌, Bool, false, ◌&&◌, List, [], ◌∷◌, ◌++◌, length, Option, Some, None, nat_eq, nat_le, slice_get, codes, if◌then◌else◌}
use Rattle.std.specs.Fmt.{signed_decimal}
use Rattle.std.specs.Int.{w32, w64, cast_signed, cast_unsigned}
use Rattle.jc_programs.specs.declared.run_end.Thrown.TheVariants as thrown
use Rattle.jc_programs.specs.declared.program.ProbeInit.{ProbeInit}
use Rattle.jc_programs.specs.declared.run_end.Thrown.{Thrown}
use Rattle.jc_programs.specs.Throwables.{is_one}
use Rattle.jc_machine_model.specs.Values.{Value, int, long, null, object, memory_error, print_stream, probes, text}
use Rattle.jc_machine_model.specs.Heap.{HeapObject, throwable, has_room}
use Rattle.jc_machine_model.specs.World.{Frame, Shared}
use Rattle.jc_machine_model.specs.Operations.{Printed, an_int_line, a_long_line, a_boolean_line, an_empty_line}
use Rattle.jc_machine_model.specs.Results.{Result, goes_with, raises, throws, gets_stuck}
use Rattle.jc_machine_model.specs.Jumps.{int_equal}

-- ---- throwables

-- a new object goes behind the others, where there is room
abbrev pub made : ℕ → HeapObject → List Value → Shared → Frame → Result
made words x stack s f =
    if has_room s.heap words then goes_with (record s { heap = s.heap ++ x ∷ [] }) f (object (length s.heap) ∷ stack)
    else raises thrown.OutOfMemoryError

-- the class of a throwable in the heap
abbrev pub heap_object_thrown : Option HeapObject → Option Thrown
heap_object_thrown (Some (throwable c)) = Some c
heap_object_thrown _ = None

-- the class of the throwable that a value is a reference to
abbrev pub thrown_of : List HeapObject → Value → Option Thrown
thrown_of heap (object k) = heap_object_thrown (slice_get heap k)
thrown_of heap memory_error = Some thrown.OutOfMemoryError
thrown_of heap _ = None

-- the constructor of a class does nothing to a throwable of just this class
abbrev pub built : Thrown → Option Thrown → List Value → Shared → Frame → Result
built c None stack s f = gets_stuck
built c (Some d) stack s f = if is_one c d then goes_with s f stack else gets_stuck

-- the throwable on top
abbrev pub by_build : Thrown → List Value → Shared → Frame → Result
by_build c (v ∷ stack) s f = built c (thrown_of s.heap v) stack s f
by_build c [] s f = gets_stuck

-- a throwable is thrown
abbrev pub thrown_up : Option Thrown → Value → Result
thrown_up None v = gets_stuck
thrown_up (Some c) v = throws c v

-- null becomes an exception of its own
abbrev pub by_throw : List Value → Shared → Result
by_throw (null ∷ stack) s = raises thrown.NullPointerException
by_throw (v ∷ stack) s = thrown_up (thrown_of s.heap v) v
by_throw [] s = gets_stuck

-- ---- printing

-- the most bytes that a case prints
abbrev pub most_printed : ℕ
most_printed = 1048576

-- the text and LF are printed, where the stream is there
abbrev pub by_print : List ℕ → Value → List Value → Shared → Frame → Result
by_print line null stack s f = raises thrown.NullPointerException
by_print line print_stream stack s f =
    if nat_le (length s.output + (length line + 1)) most_printed then goes_with (record s { output = s.output ++ (line ++ 10 ∷ []) }) f stack
    else gets_stuck
by_print line _ stack s f = gets_stuck

-- `true` where the int is odd
abbrev pub boolean_text : ℤ → List ℕ
boolean_text x = if nat_eq (cast_unsigned w32 x % 2) 0 then codes "false" else codes "true"

-- what stands above the stream is printed: a decimal number, a boolean, or nothing
abbrev pub by_println : Printed → List Value → Shared → Frame → Result
by_println an_int_line (int x ∷ stream ∷ stack) s f = by_print (signed_decimal x) stream stack s f
by_println a_long_line (long x ∷ stream ∷ stack) s f = by_print (signed_decimal x) stream stack s f
by_println a_boolean_line (int x ∷ stream ∷ stack) s f = by_print (boolean_text x) stream stack s f
by_println an_empty_line (stream ∷ stack) s f = by_print [] stream stack s f
by_println _ _ s f = gets_stuck

-- ---- probes

-- the operands are the id of the class, its own text, and the number of its probes
abbrev pub is_fetched : ℕ → ProbeInit → ℤ → ℕ → ℤ → Bool
is_fetched class init id of count =
    int_equal id (cast_signed w64 init.id) && (nat_eq of class && int_equal count (pos init.count))

-- they become the probe array
abbrev pub by_fetch : ℕ → ProbeInit → List Value → Shared → Frame → Result
by_fetch class init (int count ∷ text of ∷ long id ∷ stack) s f =
    if is_fetched class init id of count then goes_with s f (probes class init.count ∷ stack) else gets_stuck
by_fetch class init _ s f = gets_stuck

-- the probe array of the class
abbrev pub is_array_of : ℕ → Value → Bool
is_array_of class (probes of count) = nat_eq of class
is_array_of class _ = false

-- it stays on top (JVM Specification 6.5, checkcast)
abbrev pub by_cast : ℕ → List Value → Shared → Frame → Result
by_cast class (v ∷ stack) s f = if is_array_of class v then goes_with s f (v ∷ stack) else gets_stuck
by_cast class [] s f = gets_stuck
