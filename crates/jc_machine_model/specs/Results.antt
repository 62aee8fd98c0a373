-- What the turn of a thread comes to, by the instruction at which its frame on top stands.
use Rattle.std.specs.Prelude.{ℕ, ◌+◌, List, Option}
use Rattle.jc_programs.specs.declared.run_end.Entry.{Entry}
use Rattle.jc_programs.specs.declared.run_end.Thrown.{Thrown}
use Rattle.jc_machine_model.specs.Values.{Value}
use Rattle.jc_machine_model.specs.World.{Frame, Shared}

pub data Result : Type 0 where
  -- the frame goes on
  goes : Shared → Frame → Result
  -- the frame goes on, and the probe of the class was hit
  hits : (class id : ℕ) → Frame → Result
  -- a method is called with these locals, and the frame waits
  calls : (callee : Entry) → (locals : List (Option Value)) → Frame → Result
  -- the frame is left, with a value or without
  leaves : Option Value → Result
  -- a throwable of the class is made and thrown
  raises : Thrown → Result
  -- a throwable of the class, which is there, is thrown
  throws : Thrown → Value → Result
  -- the thread is stuck
  gets_stuck : Result

-- with this stack
abbrev pub next_with : Frame → List Value → Frame
next_with f stack = record f { place = f.place + 1; stack = stack }

abbrev pub goes_with : Shared → Frame → List Value → Result
goes_with s f stack = goes s (next_with f stack)
