-- Single instructions as worked examples.
use Rattle.std.specs.Prelude.{ℕ, pos, negsuc, true, false, List, [], ◌∷◌, Option, Some, None, slice_set, codes}
use Rattle.jc_bytes.specs.Descriptor as types
use Rattle.jc_methods.specs.declared.insn.Insn.{Insn}
use Rattle.jc_methods.specs.declared.insn.Insn.TheVariants as insns
use Rattle.jc_methods.specs.declared.body.Handler.{Handler}
use Rattle.jc_methods.specs.declared.body.Use.{Use}
use Rattle.jc_methods.specs.declared.body.What.{What}
use Rattle.jc_methods.specs.declared.body.What.TheVariants as whats
use Rattle.jc_methods.specs.declared.body.Body.{Body}
use Rattle.jc_methods.specs.Opcode as opcode
use Rattle.jc_programs.specs.declared.program.Program.{Program}
use Rattle.jc_programs.specs.declared.program.Linked.{Linked}
use Rattle.jc_programs.specs.declared.run_end.Entry.{Entry}
use Rattle.jc_programs.specs.declared.run_end.Thrown.TheVariants as thrown
use Rattle.jc_machine_model.specs.Values.{Value, int, long, null}
use Rattle.jc_machine_model.specs.Heap.{HeapObject, array, throwable}
use Rattle.jc_machine_model.specs.World.{Frame, Shared, Thread, running}
use Rattle.jc_machine_model.specs.Results.{Result, goes}
use Rattle.jc_machine_model.specs.Step.{After, result_of, turn_of}
use Rattle.examples_machine.specs.ProgramExamples.{use_at, method, static_field, class, program, probed_class}

-- ---- a program around an instruction

-- static fields of each kind
abbrev pub fields_class : Linked
fields_class = class (codes "F") [] (
    static_field (codes "z") (codes "Z") (pos 0) ∷ static_field (codes "b") (codes "B") (pos 0) ∷ static_field (codes "c") (codes "C") (pos 0)
    ∷ static_field (codes "s") (codes "S") (pos 0) ∷ static_field (codes "i") (codes "I") (pos 0) ∷ static_field (codes "j") (codes "J") (pos 0)
    ∷ static_field (codes "l") (codes "Ljava/lang/Object;") (pos 0) ∷ static_field (codes "f") (codes "F") (pos 0)
    ∷ static_field (codes "$jacocoData") (codes "[Z") (pos 0) ∷ [])

abbrev empty_body : List ℕ → List ℕ → List ℕ → ℕ → ℕ → Body
empty_body owner name desc flags max_stack = record (method owner name desc 0 max_stack 3 (insns.Simple opcode.return ∷ []) [] []) { flags = flags }

-- methods that may be called, and others
abbrev pub methods_class : Linked
methods_class = class (codes "M") (
    empty_body (codes "M") (codes "plain") (codes "(IJ)V") 0x0008 997
    ∷ empty_body (codes "M") (codes "wide") (codes "()V") 0x0008 998
    ∷ empty_body (codes "M") (codes "synchronized") (codes "()V") 0x0028 0
    ∷ empty_body (codes "M") (codes "instance") (codes "()V") 0x0000 0 ∷ []) []

abbrev pub starting_class : Linked
starting_class = record (class (codes "I") (empty_body (codes "I") (codes "f") (codes "()V") 0x0008 0 ∷ []) []) { has_clinit = true }

-- a class with `$jacocoInit`, whose methods may have four slots more
abbrev pub asking_class : Linked
asking_class =
    probed_class (codes "P") 5 (pos 5) 3 (empty_body (codes "P") (codes "wide") (codes "()V") 0x0008 1001 ∷ empty_body (codes "P")
    (codes "wider") (codes "()V") 0x0008 1002 ∷ []) []

-- a method with one instruction, of a class of its own
abbrev pub around : List ℕ → List ℕ → List Use → Insn → Linked
around name desc uses insn = class (codes "A") (method (codes "A") name desc 0 9 4 (insn ∷ insns.Simple opcode.return ∷ []) [] uses ∷ []) []

abbrev pub surrounding : Linked → Program
surrounding c = program (c ∷ fields_class ∷ methods_class ∷ starting_class ∷ asking_class ∷ [])

abbrev pub first_method : Entry
first_method = record { class = 0; method = 0 }

abbrev pub frame_with : ℕ → List (Option Value) → List Value → Frame
frame_with place locals stack = record { method = first_method; place = place; locals = locals; stack = stack }

abbrev pub fields_with : List (List Value) → List HeapObject → Shared
fields_with statics heap = record { statics = statics; heap = heap; output = []; raised = false }

-- the values of the fields of F
abbrev pub first_values : List Value
first_values = int (pos 0) ∷ int (pos 0) ∷ int (pos 0) ∷ int (pos 0) ∷ int (pos 0) ∷ long (pos 0) ∷ null ∷ int (pos 0) ∷ null ∷ []

-- the static fields of all classes, where those of F have these values
abbrev pub fields_where : List Value → List (List Value)
fields_where values = [] ∷ values ∷ [] ∷ [] ∷ (null ∷ []) ∷ []

abbrev pub first_fields : List (List Value)
first_fields = fields_where first_values

-- an array of each type of elements, and a throwable
abbrev pub things : List HeapObject
things =
    array types.Int (pos 7 ∷ negsuc 0 ∷ []) ∷ array types.Long (pos 9 ∷ []) ∷ array types.Byte (pos 1 ∷ []) ∷ array types.Boolean (pos 1 ∷ [])
    ∷ array types.Char (pos 65 ∷ []) ∷ array types.Short (negsuc 1 ∷ []) ∷ throwable thrown.IllegalStateException ∷ []

-- the things with another one in place of that with this number
abbrev pub changed_thing : ℕ → HeapObject → List HeapObject
changed_thing number object = slice_set things number object

abbrev pub shared : Shared
shared = fields_with first_fields things

-- ---- what the instruction does

abbrev pub does_in : List ℕ → List ℕ → List Use → Insn → List (Option Value) → List Value → Result
does_in name desc uses insn locals stack = result_of (surrounding (around name desc uses insn)) shared (frame_with 0 locals stack)

-- in a method that isn't `$jacocoInit`
abbrev pub does_with : List Use → Insn → List (Option Value) → List Value → Result
does_with uses insn locals stack = does_in (codes "f") (codes "()V") uses insn locals stack

-- without places in the pool and local variables
abbrev pub does : Insn → List Value → Result
does insn stack = does_with [] insn [] stack

-- with one place in the pool
abbrev pub does_on : What → Insn → List Value → Result
does_on what insn stack = does_with (use_at 1 what ∷ []) insn [] stack

-- in a method that returns a value of the type with this descriptor
abbrev pub does_returning : List ℕ → Insn → List Value → Result
does_returning desc insn stack = does_in (codes "f") desc [] insn [] stack

-- in the `$jacocoInit` of a class with three probes
abbrev pub does_in_init : What → Insn → List Value → Result
does_in_init what insn stack =
    result_of (surrounding (record (around (codes "$jacocoInit") (codes "()[Z") (use_at 1 what
    ∷ []) insn) { probes = Some (record { id = 5; count = 3; bootstrap = None }) })) shared (frame_with 0 [] stack)

-- it goes on with this stack
abbrev pub leaves_stack : List Value → Result
leaves_stack stack = goes shared (frame_with 1 [] stack)

abbrev pub leaves_locals : List (Option Value) → List Value → Result
leaves_locals locals stack = goes shared (frame_with 1 locals stack)

-- it goes on, and something shared is changed
abbrev pub leaves_fields : List (List Value) → List Value → Result
leaves_fields statics stack = goes (fields_with statics things) (frame_with 1 [] stack)

abbrev pub leaves_heap : List HeapObject → List Value → Result
leaves_heap heap stack = goes (fields_with first_fields heap) (frame_with 1 [] stack)

abbrev pub leaves_output : List ℕ → List Value → Result
leaves_output output stack = goes (record shared { output = output }) (frame_with 1 [] stack)

abbrev pub jumps_with : ℕ → List Value → Result
jumps_with place stack = goes shared (frame_with place [] stack)

-- ---- parts of the pool

abbrev pub field : List ℕ → List ℕ → List ℕ → What
field class name desc = whats.Field class name desc

abbrev pub called : List ℕ → List ℕ → List ℕ → What
called class name desc = whats.Method class name desc

abbrev pub println : List ℕ → What
println desc = called (codes "java/io/PrintStream") (codes "println") desc

abbrev pub system_out : What
system_out = field (codes "java/lang/System") (codes "out") (codes "Ljava/io/PrintStream;")

abbrev pub get_probes : What
get_probes = called (codes "org/jacoco/agent/rt/internal/Offline") (codes "getProbes") (codes "(JLjava/lang/String;I)[Z")

-- the field of F with this one-letter name, and its descriptor
abbrev pub of_f : List ℕ → List ℕ → What
of_f name desc = field (codes "F") name desc

-- the first fields with another value of the field of F with this index
abbrev pub changed_field : ℕ → Value → List (List Value)
changed_field index value = fields_where (slice_set first_values index value)

-- a call of a static method, with what stands on the stack
abbrev pub does_call : List ℕ → List ℕ → List ℕ → List Value → Result
does_call class name desc stack = does_on (called class name desc) (insns.Member opcode.invokestatic 1) stack

abbrev pub does_put : List ℕ → List ℕ → Value → Result
does_put name desc value = does_on (of_f name desc) (insns.Member opcode.putstatic 1) (value ∷ [])

-- ---- handlers

-- a method that throws at its first instruction, with these rows; the pool has RuntimeException at 1, an unknown class at
-- 2, Throwable at 3 and VirtualMachineError at 4
abbrev pub guarded : List Handler → Program
guarded rows = program (class (codes "A") (record (method (codes "A") (codes "f") (codes "()V") 0 2 0
    (insns.Simple opcode.athrow ∷ insns.Simple opcode.return ∷ insns.Simple opcode.return ∷ insns.Simple opcode.return
    ∷ insns.Simple opcode.return ∷ []) []
    (use_at 1 (whats.Class (codes "java/lang/RuntimeException")) ∷ use_at 2 (whats.Class (codes "A")) ∷ use_at 3 (whats.Class
    (codes "java/lang/Throwable"))
    ∷ use_at 4 (whats.Class (codes "java/lang/VirtualMachineError")) ∷ [])) { handlers = rows } ∷ []) [] ∷ [])

-- its thread throws what stands on the stack; a frame waits at the same instruction
abbrev pub thrown_by : List Handler → Value → List Frame → After
thrown_by rows v waiting = turn_of (guarded rows) (fields_with ([] ∷ []) things) (running (frame_with 0 [] (v ∷ int (pos 1) ∷ [])) waiting)

abbrev pub after_throw : Thread → List HeapObject → After
after_throw thread heap = record { thread = thread; shared = record (fields_with ([] ∷ []) heap) { raised = true }; hits = [] }

abbrev pub caught_at : ℕ → Value → After
caught_at target v = after_throw (running (frame_with target [] (v ∷ [])) []) things
