-- Turns that those give a thread who keep locks, in the place of its own: at monitor instructions and at calls of synchronized
-- methods (JVM Specification 2.11.10; 6.5, monitorenter, monitorexit, invokestatic).
use Rattle.std.specs.Prelude.{◌≡◌, ℕ, Bool, true, false, ◌&&◌, not, List, [], ◌∷◌, Option, Some, None, option_and_then, slice_get, nat_eq, if◌then◌else◌}
use Rattle.jc_methods.specs.declared.body.Body.{Body}
use Rattle.jc_methods.specs.declared.insn.Insn.{Insn}
use Rattle.jc_methods.specs.declared.insn.Insn.TheVariants as insns
use Rattle.jc_methods.specs.Opcode as opcode
use Rattle.jc_methods.specs.DescriptorTypes.{method_type_in}
use Rattle.jc_programs.specs.declared.program.Program.{Program}
use Rattle.jc_programs.specs.declared.program.Linked.{Linked}
use Rattle.jc_programs.specs.declared.run_end.Entry.{Entry}
use Rattle.jc_programs.specs.declared.run_end.Thrown.{Thrown}
use Rattle.jc_programs.specs.Members.{class_at, body_of}
use Rattle.jc_machine_model.specs.Methods.{is_init_name, is_synchronized, is_plain}
use Rattle.jc_machine_model.specs.Values.{Value}
use Rattle.jc_machine_model.specs.World.{Frame, Thread, running, Shared, World}
use Rattle.jc_machine_model.specs.Results.{Result, goes_with, raises, gets_stuck}
use Rattle.jc_machine_model.specs.Calls.{taken_for, by_call}
use Rattle.jc_machine_model.specs.Profile.{in_init}
use Rattle.jc_machine_model.specs.Step.{LocatedInsn, located, result_of, After, after, after_result, with_after, step}
use Rattle.jc_machine_model.specs.Fits.{called_by}

-- ---- the turn of a thread that comes to a given result

abbrev pub turn_to : Program → (Shared → Frame → Result) → Shared → Thread → After
turn_to program act s (running f waiting) = after_result program (act s f) s f waiting
turn_to program act s thread = after thread s

abbrev pub turn_by_of : Program → (Shared → Frame → Result) → World → ℕ → Option Thread → World
turn_by_of program act w t None = w
turn_by_of program act w t (Some thread) = with_after t w (turn_to program act w.shared thread)

-- the world after a turn of the thread in which its frame on top comes to what `act` says
abbrev pub turn_by : Program → (Shared → Frame → Result) → World → ℕ → World
turn_by program act w t = turn_by_of program act w t (slice_get w.threads t)

-- a turn of its own is that by what its instruction does
abbrev pub StepIsTurnBy : Type 0
StepIsTurnBy = (program : Program) (w : World) (t : ℕ) → step program w t ≡ turn_by program (result_of program) w t

-- ---- monitor instructions

pub data MonitorInsn : Type 0 where
  enters : MonitorInsn
  exits : MonitorInsn

abbrev pub monitor_named : ℕ → Option MonitorInsn
monitor_named op = if nat_eq op opcode.monitorenter then Some enters else if nat_eq op opcode.monitorexit then Some exits else None

abbrev pub monitor_of : Insn → Option MonitorInsn
monitor_of (insns.Simple op) = monitor_named op
monitor_of insn = None

abbrev pub monitor_in : Option LocatedInsn → Option MonitorInsn
monitor_in None = None
monitor_in (Some i) = monitor_of i.insn

-- at which the frame stands
abbrev pub monitor_of_frame : Program → Frame → Option MonitorInsn
monitor_of_frame program f = monitor_in (located program f.method f.place)

abbrev pub monitor_of_thread : Program → Thread → Option MonitorInsn
monitor_of_thread program (running f waiting) = monitor_of_frame program f
monitor_of_thread program thread = None

-- at which the thread stands, if it runs and stands at one
abbrev pub monitor_at : Program → World → ℕ → Option MonitorInsn
monitor_at program w t = option_and_then (monitor_of_thread program) (slice_get w.threads t)

abbrev pub dropped : Shared → Frame → List Value → Result
dropped s f [] = gets_stuck
dropped s f (v ∷ stack) = goes_with s f stack

-- the operand on top goes, and the next instruction follows
abbrev pub dropping : Shared → Frame → Result
dropping s f = dropped s f f.stack

-- a throwable of the class is made and thrown
abbrev pub raising : Thrown → Shared → Frame → Result
raising c s f = raises c

-- ---- calls of synchronized methods

-- a method that a thread could enter if it weren't synchronized, and that isn't named `$jacocoInit`
abbrev pub is_locked : Linked → Body → Bool
is_locked c b = is_plain c b && (is_synchronized b && not (is_init_name b.name))

abbrev pub locked_if : Bool → Entry → Option Entry
locked_if true method = Some method
locked_if false method = None

abbrev pub locked_body : Entry → Linked → Option Body → Option Entry
locked_body method c None = None
locked_body method c (Some b) = locked_if (is_locked c b) method

abbrev pub locked_class : Entry → Option Linked → Option Entry
locked_class method None = None
locked_class method (Some c) = locked_body method c (slice_get c.bodies method.method)

-- the method, if it is such a one
abbrev pub locked_method : Program → Option Entry → Option Entry
locked_method program None = None
locked_method program (Some method) = locked_class method (class_at program method.class)

-- the method that an `invokestatic` outside of `$jacocoInit` calls, if it is such a one
abbrev pub locked_call : Program → Option LocatedInsn → Option Entry
locked_call program None = None
locked_call program (Some i) = if in_init i.at then None else locked_method program (called_by program i.at i.insn)

abbrev pub callee_of_frame : Program → Frame → Option Entry
callee_of_frame program f = locked_call program (located program f.method f.place)

abbrev pub callee_of_thread : Program → Thread → Option Entry
callee_of_thread program (running f waiting) = callee_of_frame program f
callee_of_thread program thread = None

-- The method that the thread is about to call, if only its being synchronized keeps it from being called.
abbrev pub callee : Program → World → ℕ → Option Entry
callee program w t = option_and_then (callee_of_thread program) (slice_get w.threads t)

-- what a call of a method comes to, as if it weren't synchronized
abbrev pub call_of : Option Body → Entry → Frame → Result
call_of None method f = gets_stuck
call_of (Some b) method f = by_call method b.max_locals (taken_for (method_type_in b.desc).parameters f.stack) f

abbrev pub call_to : Program → Option Entry → Frame → Result
call_to program None f = gets_stuck
call_to program (Some method) f = call_of (body_of program method) method f

-- that call
abbrev pub calling : Program → Shared → Frame → Result
calling program s f = call_to program (callee_of_frame program f) f
