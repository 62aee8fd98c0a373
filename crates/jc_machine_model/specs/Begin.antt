-- The world in which a case begins.
use Rattle.std.specs.Prelude.{ℤ, Bool, List, [], ◌∷◌, map, Option, Some, None, slice_get, if◌then◌else◌}
use Rattle.jc_bytes.specs.Descriptor.{FieldType, Long, Object, Array}
use Rattle.jc_methods.specs.declared.body.Body.{Body}
use Rattle.jc_methods.specs.DescriptorTypes.{field_type_in, method_type_in}
use Rattle.jc_programs.specs.declared.program.Program.{Program}
use Rattle.jc_programs.specs.declared.program.Linked.{Linked}
use Rattle.jc_programs.specs.declared.program.StaticField.{StaticField}
use Rattle.jc_programs.specs.declared.run_plan.ThreadLine.{ThreadLine}
use Rattle.jc_programs.specs.declared.run_plan.Case.{Case}
use Rattle.jc_programs.specs.declared.run_end.Entry.{Entry}
use Rattle.jc_programs.specs.Members.{class_at}
use Rattle.jc_programs.specs.Entries.{entry_of}
use Rattle.jc_machine_model.specs.Values.{Value, int, long, null}
use Rattle.jc_machine_model.specs.World.{Frame, Thread, running, stuck, Shared, World}
use Rattle.jc_machine_model.specs.Methods.{is_enterable}
use Rattle.jc_machine_model.specs.Calls.{locals_for}
use Rattle.jc_machine_model.specs.Step.{new_frame}

-- a number as a value of a type
abbrev pub number_value : FieldType → ℤ → Value
number_value Long n = long n
number_value type n = int n

-- the first value of a static field: a number, or null
abbrev pub first_of : Option FieldType → ℤ → Value
first_of (Some (Object name)) n = null
first_of (Some (Array component)) n = null
first_of (Some type) n = number_value type n
first_of None n = null

abbrev pub first_value : StaticField → Value
first_value f = first_of (field_type_in f.desc) f.first

abbrev pub first_statics : Program → List (List Value)
first_statics program = map (λ (c : Linked). map first_value c.statics) program.classes

-- the numbers as values of the parameters' types
abbrev pub argument_values : List FieldType → List ℤ → List Value
argument_values [] numbers = []
argument_values (type ∷ types) [] = []
argument_values (type ∷ types) (n ∷ numbers) = number_value type n ∷ argument_values types numbers

-- the frame of a method that is given the numbers
abbrev pub first_frame : Entry → Body → List ℤ → Frame
first_frame method b numbers = new_frame method (locals_for b.max_locals (argument_values (method_type_in b.desc).parameters numbers))

abbrev pub thread_in : Entry → List ℤ → Linked → Body → Thread
thread_in method numbers c b = if is_enterable c b then running (first_frame method b numbers) [] else stuck method 0

abbrev pub thread_for : Entry → List ℤ → Option Linked → Thread
thread_for method numbers None = stuck method 0
thread_for method numbers (Some c) = elim (slice_get c.bodies method.method) [ None ↦ stuck method 0 | Some b ↦ thread_in method numbers c b ]

-- a thread whose method isn't one that the profile lets a thread enter starts stuck
abbrev pub first_thread : Program → Entry → List ℤ → Thread
first_thread program method numbers = thread_for method numbers (class_at program method.class)

abbrev pub first_threads : Program → List ThreadLine → List Entry → List Thread
first_threads program [] entries = []
first_threads program (thread ∷ threads) [] = []
first_threads program (thread ∷ threads) (entry ∷ entries) = first_thread program entry thread.args ∷ first_threads program threads entries

abbrev pub first_shared : Program → Shared
first_shared program = record { statics = first_statics program; heap = []; output = []; raised = Bool.false }

-- each thread in a frame of its method, and nothing printed, made or hit
unfoldable pub begin : Program → List ThreadLine → List Entry → World
begin program threads entries = record { threads = first_threads program threads entries; shared = first_shared program; hits = [] }

-- the entries of threads
abbrev pub entries_of : Program → List ThreadLine → List Entry
entries_of program [] = []
entries_of program (thread ∷ threads) =
    elim (entry_of program thread) [ None ↦ entries_of program threads | Some entry ↦ entry ∷ entries_of program threads ]

-- the world in which a case begins whose threads all have an entry
abbrev pub begin_case : Program → Case → World
begin_case program case = begin program case.threads (entries_of program case.threads)
