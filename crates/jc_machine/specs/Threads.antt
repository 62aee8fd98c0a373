-- Threads as the machine keeps them: how each stands, and its frames.
use Rattle.std.specs.Prelude.{ℕ, List, [], ◌∷◌}
use Rattle.jc_programs.specs.declared.run_end.Entry.{Entry}
use Rattle.jc_programs.specs.declared.run_end.End.{End}
use Rattle.jc_programs.specs.declared.run_end.End.TheVariants as ends
use Rattle.jc_region.specs.Memory.{Allocation}
use Rattle.jc_machine_model.specs.World.{Frame, Thread, running, returned, threw, stuck}
use Rattle.jc_machine_model.specs.Calls.{Arguments, locals_for}
use Rattle.jc_machine_model.specs.Step.{new_frame}

-- the memory of the list of those frames that aren't on top, and of the cells of each frame, the lowest frame first
pub record FramesMemory : Type 0 where
  pub others : Allocation
  pub cells : List Allocation

-- the frame on top, those that wait, the nearest first, and the memory in which they lie
pub record ThreadFrames : Type 0 where
  pub top : Frame
  pub waiting : List Frame
  pub memory : FramesMemory

-- The frames behind a call: that of the method that is called, whose first local variables are the arguments, above the one
-- that calls, from whose stack they are gone.
abbrev pub called : Entry → ℕ → Arguments → ThreadFrames → ThreadFrames
called callee max_locals arguments frames = record frames {
  top = new_frame callee (locals_for max_locals arguments.values);
  waiting = record frames.top { stack = arguments.rest } ∷ frames.waiting;
}

-- A thread that runs has the frames. One that is stuck stands where the frame on top does.
abbrev pub thread_of : End → ThreadFrames → Thread
thread_of ends.Running frames = running frames.top frames.waiting
thread_of ends.Stuck frames = stuck frames.top.method frames.top.place
thread_of (ends.Returned v) frames = returned v
thread_of (ends.Threw c) frames = threw c

abbrev pub threads_of : List End → List ThreadFrames → List Thread
threads_of [] stacks = []
threads_of (end ∷ ends) [] = []
threads_of (end ∷ ends) (frames ∷ stacks) = thread_of end frames ∷ threads_of ends stacks
