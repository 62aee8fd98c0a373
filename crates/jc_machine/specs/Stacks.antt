-- The frames of a thread as they lie in memory: the one on top for itself, and those that wait from the lowest on.
use Rattle.std.specs.Prelude.{◌≡◌, ◌≤◌, List, length, map, take, reverse}
use Rattle.std.specs.List.{insert}
use Rattle.jc_region.specs.Memory.{Allocation, allocation_of}
use Rattle.jc_machine_model.specs.World.{Frame}
use Rattle.jc_machine_memory.specs.Frames.{FrameSeen}
use Rattle.jc_machine.specs.declared.thread_stack.ThreadStack.TheInside.{Inside}
use Rattle.jc_machine.specs.Threads.{FramesMemory, ThreadFrames}

abbrev pub contents_of : List FrameSeen → List Frame
contents_of frames = map (λ (f : FrameSeen). f.content) frames

abbrev pub memories_of : List FrameSeen → List Allocation
memories_of frames = map (λ (f : FrameSeen). f.memory) frames

-- the cells of the frame on top come behind those of the frames that wait
abbrev pub memory_of : Inside → FramesMemory
memory_of s = record { others = allocation_of s.others; cells = insert (memories_of s.others.items) s.waiting s.top.memory }

abbrev pub frames_of : Inside → ThreadFrames
frames_of s = record { top = s.top.content; waiting = reverse (take s.waiting (contents_of s.others.items)); memory = memory_of s }

-- there is room for 128 frames that wait, and so many do
pub record IsThreadStack (s : Inside) : Type 0 where
  pub others : length s.others.items ≡ 128
  pub within : s.waiting ≤ 128
