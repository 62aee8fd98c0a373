-- One turn of a thread: it executes the instruction at which the thread stands.
use Rattle.std.specs.Prelude.{ℕ, Bool, true, false, ◌&&◌, not, List, [], ◌∷◌, ◌++◌, length, filter, Option, Some, None, option_and_then, nat_eq, nat_le, nat_lt, slice_get, slice_set, find, if◌then◌else◌}
use Rattle.jc_methods.specs.declared.insn.Insn.{Insn}
use Rattle.jc_methods.specs.declared.body.Handler.{Handler}
use Rattle.jc_methods.specs.declared.body.Body.{Body}
use Rattle.jc_methods.specs.WellMade.{what_used}
use Rattle.jc_programs.specs.declared.run_end.Thrown.TheVariants as thrown
use Rattle.jc_programs.specs.declared.program.Program.{Program}
use Rattle.jc_programs.specs.declared.program.Linked.{Linked}
use Rattle.jc_programs.specs.declared.run_end.Entry.{Entry}
use Rattle.jc_programs.specs.declared.run_end.Thrown.{Thrown}
use Rattle.jc_programs.specs.Members.{class_at, body_of}
use Rattle.jc_programs.specs.Throwables.{is_named_in}
use Rattle.jc_kinds_after.specs.After.{class_in}
use Rattle.jc_machine_model.specs.Methods.{is_init_name}
use Rattle.jc_machine_model.specs.Values.{Value, object, memory_error, seen_value}
use Rattle.jc_machine_model.specs.Heap.{throwable, has_room}
use Rattle.jc_machine_model.specs.World.{Frame, Thread, running, returned, threw, stuck, Shared, Hit, World}
use Rattle.jc_machine_model.specs.Profile.{Location, operation_of}
use Rattle.jc_machine_model.specs.Operations.{Operation, outside}
use Rattle.jc_machine_model.specs.Results.{Result, goes, hits, calls, leaves, raises, throws, gets_stuck, next_with}
use Rattle.jc_machine_model.specs.Perform.{perform}

-- ---- the instruction of a frame

-- an instruction, and where it stands
pub record LocatedInsn : Type 0 where
  pub at : Location
  pub insn : Insn

abbrev pub located_in_body : ℕ → Linked → ℕ → Body → Option Insn → Option LocatedInsn
located_in_body class c place b None = None
located_in_body class c place b (Some insn) = Some (record { at = record { class = class; linked = c; body = b; place = place }; insn = insn })

abbrev pub located_in_class : ℕ → ℕ → Linked → Option Body → Option LocatedInsn
located_in_class class place c None = None
located_in_class class place c (Some b) = located_in_body class c place b (slice_get b.code place)

-- the instruction at a place of a method
abbrev pub located : Program → Entry → ℕ → Option LocatedInsn
located program method place =
    option_and_then (λ (c : Linked). located_in_class method.class place c (slice_get c.bodies method.method)) (class_at program method.class)

abbrev pub operation_at : Program → Option LocatedInsn → Operation
operation_at program None = outside
operation_at program (Some i) = operation_of program i.at i.insn

-- what the instruction does at which the frame stands
abbrev pub result_of : Program → Shared → Frame → Result
result_of program s f = perform (operation_at program (located program f.method f.place)) s f

-- ---- throwing

-- the name of the class that a row of the exception table catches; 0 stands for all
abbrev pub catches : Body → Handler → Thrown → Bool
catches b row c = if nat_eq row.class 0 then true else is_named_in c (class_in (what_used b.uses row.class))

-- the row holds the instruction, and catches the class
abbrev pub handles : Body → ℕ → Thrown → Handler → Bool
handles b place c row = nat_le row.start place && (nat_lt place row.end && catches b row c)

-- the first row that does
abbrev pub handler_in : ℕ → Thrown → Body → Option Handler
handler_in place c b = find (handles b place c) b.handlers

abbrev pub handler_of : Program → Thrown → Frame → Option Handler
handler_of program c f = option_and_then (handler_in f.place c) (body_of program f.method)

-- the frame goes on at its handler, with the throwable alone on its stack; without a handler the frames below are tried
abbrev pub caught : Option Handler → Value → Frame → List Frame → Thread → Thread
caught None v f waiting others = others
caught (Some row) v f waiting others = running (record f { place = row.target; stack = v ∷ [] }) waiting

-- each frame without a handler is left
abbrev pub unwound : Program → Thrown → Value → List Frame → Thread
unwound program c v [] = threw c
unwound program c v (f ∷ waiting) = caught (handler_of program c f) v f waiting (unwound program c v waiting)

-- a throwable, and what all threads share once it is there
pub record Raised : Type 0 where
  pub thrown : Thrown
  pub value : Value
  pub shared : Shared

abbrev pub out_of_memory : Shared → Raised
out_of_memory s = record { thrown = thrown.OutOfMemoryError; value = memory_error; shared = s }

-- a throwable takes a word; where none is left it is the case's one OutOfMemoryError
abbrev pub placed : Thrown → Shared → Raised
placed thrown.OutOfMemoryError s = out_of_memory s
placed c s =
    if has_room s.heap 1 then record { thrown = c; value = object (length s.heap); shared = record s { heap = s.heap ++ throwable c ∷ [] } }
    else out_of_memory s

-- ---- calls and returns

-- the frame's method is named `$jacocoInit`
abbrev pub named_init : Option Body → Bool
named_init None = false
named_init (Some b) = is_init_name b.name

abbrev pub is_init_method : Program → Entry → Bool
is_init_method program method = named_init (body_of program method)

-- the most frames of a thread, those of `$jacocoInit` not counted
abbrev pub most_frames : ℕ
most_frames = 128

abbrev pub counted_frames : Program → List Frame → ℕ
counted_frames program frames = length (filter (λ (f : Frame). not (is_init_method program f.method)) frames)

-- one frame more would be too many
abbrev pub overflows : Program → Entry → List Frame → Bool
overflows program callee frames = not (is_init_method program callee) && nat_le most_frames (counted_frames program frames)

abbrev pub new_frame : Entry → List (Option Value) → Frame
new_frame method locals = record { method = method; place = 0; locals = locals; stack = [] }

-- the frame that waited goes on behind its call, with the value that came back
abbrev pub given_back : Option Value → Frame → Frame
given_back None f = next_with f f.stack
given_back (Some v) f = next_with f (v ∷ f.stack)

abbrev pub left : Option Value → List Frame → Thread
left v [] = returned (elim v [ None ↦ None | Some x ↦ Some (seen_value x) ])
left v (f ∷ waiting) = running (given_back v f) waiting

-- ---- a turn of a running thread

-- what a thread and the shared values are afterwards, and the hits
pub record After : Type 0 where
  pub thread : Thread
  pub shared : Shared
  pub hits : List Hit

abbrev pub after : Thread → Shared → After
after thread s = record { thread = thread; shared = s; hits = [] }

abbrev pub thrown_in : Program → Raised → List Frame → After
thrown_in program r frames = after (unwound program r.thrown r.value frames) (record r.shared { raised = true })

-- f is the frame as it was before the instruction
abbrev pub after_result : Program → Result → Shared → Frame → List Frame → After
after_result program (goes s' g) s f waiting = after (running g waiting) s'
after_result program (hits class id g) s f waiting =
    record { thread = running g waiting; shared = s; hits = record { class = class; id = id } ∷ [] }
after_result program (calls callee locals g) s f waiting =
    if overflows program callee (f ∷ waiting) then thrown_in program (placed thrown.StackOverflowError s) (f ∷ waiting)
    else after (running (new_frame callee locals) (g ∷ waiting)) s
after_result program (leaves v) s f waiting = after (left v waiting) s
after_result program (raises c) s f waiting = thrown_in program (placed c s) (f ∷ waiting)
after_result program (throws c v) s f waiting = thrown_in program (record { thrown = c; value = v; shared = s }) (f ∷ waiting)
after_result program gets_stuck s f waiting = after (stuck f.method f.place) s

-- a thread that has ended or is stuck stays as it is
abbrev pub turn_of : Program → Shared → Thread → After
turn_of program s (running f waiting) = after_result program (result_of program s f) s f waiting
turn_of program s thread = after thread s

abbrev pub with_after : ℕ → World → After → World
with_after t w a = record { threads = slice_set w.threads t a.thread; shared = a.shared; hits = a.hits ++ w.hits }

abbrev pub step_of : Program → World → ℕ → Option Thread → World
step_of program w t None = w
step_of program w t (Some thread) = with_after t w (turn_of program w.shared thread)

-- the world after one turn of the thread
unfoldable pub step : Program → World → ℕ → World
step program w t = step_of program w t (slice_get w.threads t)
