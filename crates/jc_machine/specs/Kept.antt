-- The parts of the world of a case in memory.
use Rattle.std.specs.Prelude.{◌≡◌, ◌≤◌, List, length, map, take}
use Rattle.jc_region.specs.Memory.{allocation_of}
use Rattle.jc_machine.specs.declared.world.World.TheInside.{Inside}
use Rattle.jc_machine.specs.Threads.{FramesMemory, ThreadFrames, threads_of}
use Rattle.jc_machine.specs.Machines.{MachineMemory, Machine}

abbrev pub memories_of : List ThreadFrames → List FramesMemory
memories_of stacks = map (λ (frames : ThreadFrames). frames.memory) stacks

abbrev pub memory_of : Inside → MachineMemory
memory_of w = record {
  fields = allocation_of w.fields;
  stacks = allocation_of w.stacks;
  frames = memories_of w.stacks.items;
  shared = w.shared.memory;
}

abbrev pub machine_of : Inside → Machine
machine_of w = record {
  prepared = w.prepared;
  fields = w.fields.items;
  threads = threads_of (take w.count w.ends) w.stacks.items;
  shared = w.shared.content;
  memory = memory_of w;
}

-- there is room for eight threads, and 1 to 8 there are
pub record IsMachine (w : Inside) : Type 0 where
  pub stacks : length w.stacks.items ≡ 8
  pub ends : length w.ends ≡ 8
  pub some : 1 ≤ w.count
  pub few : w.count ≤ 8
