-- The world of a case with its locks, as it is kept.
use Rattle.std.specs.Prelude.{◌≡◌, ℕ, ◌≤◌, List, [], length, map, take}
use Rattle.jc_region.specs.Memory.{Allocation, allocation_of}
use Rattle.jc_programs.specs.declared.program.Program.{Program}
use Rattle.jc_machine.specs.Machines.{Machine, world_of, Fits, KeepsMemory as MachineKeepsMemory}
use Rattle.jc_monitor_model.specs.Locks.{Held}
use Rattle.jc_monitor_model.specs.SynchronizedFrames.{SynchronizedFrame}
use Rattle.jc_monitor_model.specs.MonitorWorld.{MonitorWorld}
use Rattle.jc_monitor_model.specs.KeptLocks.{KeepsLocks, KeepsLocksBut}
use Rattle.jc_monitor_world.specs.declared.monitor_world.MonitorWorld.TheInside.{Inside}
use Rattle.jc_monitor_world.specs.Kept.{FramesSeen}

-- the memory of the locks, of the list of the threads' frames of synchronized methods, and of those of each thread
pub record MonitorMemory : Type 0 where
  pub held : Allocation
  pub threads : Allocation
  pub frames : List Allocation

-- the world without locks, the locks that are held, the frames of synchronized methods of each thread, and their memory
pub record Monitored : Type 0 where
  pub machine : Machine
  pub held : List Held
  pub frames : List (List SynchronizedFrame)
  pub memory : MonitorMemory

-- Hits go to a sink and aren't kept.
abbrev pub monitor_world_of : Monitored → MonitorWorld
monitor_world_of m = record { world = world_of m.machine; held = m.held; frames = m.frames }

-- the world with its locks, as if nothing had been hit
abbrev pub without_hits : MonitorWorld → MonitorWorld
without_hits m = record m { world = record m.world { hits = [] } }

-- no memory was taken for it: all lies where it lay
abbrev pub KeepsMemory : Monitored → Monitored → Type 0
KeepsMemory before after = MachineKeepsMemory before.machine after.machine × (after.memory ≡ before.memory)

-- it was made for the program, its world fits it, and each frame of a synchronized method has its class's lock
pub record FitsMonitored (program : Program) (m : Monitored) : Type 0 where
  pub machine : Fits program m.machine
  pub locks : KeepsLocks program (monitor_world_of m)

-- The same behind a turn of the thread whose frames that were left still have their locks.
pub record IsAfterTurn (program : Program) (t : ℕ) (m : Monitored) : Type 0 where
  pub machine : Fits program m.machine
  pub locks : KeepsLocksBut program t (monitor_world_of m)

-- ---- in memory

abbrev pub monitored_of : Inside → Monitored
monitored_of w = record {
  machine = w.world;
  held = w.locks.held;
  frames = take (length w.world.threads) (map (λ (f : FramesSeen). f.frames) w.frames.items);
  memory = record {
    held = w.locks.memory;
    threads = allocation_of w.frames;
    frames = map (λ (f : FramesSeen). f.memory) w.frames.items;
  };
}

-- there is room for eight threads
pub record IsMonitored (w : Inside) : Type 0 where
  pub frames : length w.frames.items ≡ 8
  pub few : length w.world.threads ≤ 8
