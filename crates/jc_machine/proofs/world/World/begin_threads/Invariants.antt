use Rattle.std.proofs.Common.{◌≡◌, length, take}
use Rattle.jc_machine_model.specs.Begin.{first_threads}
use Rattle.jc_region.specs.Memory.{allocation_of}
use Rattle.jc_machine.specs.Threads.{threads_of}
use Rattle.jc_machine.specs.Kept.{memories_of}
use Rattle.jc_machine.proofs.world.World.begin_threads.Given as goal

abbrev pub invariant-beginning : goal.invariant-beginning
invariant-beginning l = record {
  begun : threads_of (take l.k l.self-inside.ends) l.self-inside.stacks.items ≡ take l.k (first_threads l.program l.threads l.entries);
  ends : length l.self-inside.ends ≡ 8;
  prepared : l.self-inside.prepared ≡ l.initial.self-inside.prepared;
  fields : l.self-inside.fields ≡ l.initial.self-inside.fields;
  shared : l.self-inside.shared ≡ l.initial.self-inside.shared;
  stacks : length l.self-inside.stacks.items ≡ 8;
  place : allocation_of l.self-inside.stacks ≡ allocation_of l.initial.self-inside.stacks;
  frames : memories_of l.self-inside.stacks.items ≡ memories_of l.initial.self-inside.stacks.items;
}
