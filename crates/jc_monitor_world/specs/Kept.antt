-- Locks and frames of synchronized methods as they lie in memory.
use Rattle.std.specs.Prelude.{◌≡◌, ◌≤◌, List, length, map, take, reverse}
use Rattle.jc_region.specs.Memory.{Allocation, allocation_of}
use Rattle.jc_monitor_model.specs.Locks.{Held}
use Rattle.jc_monitor_model.specs.SynchronizedFrames.{SynchronizedFrame}
use Rattle.jc_monitor_world.specs.declared.locks.Locks.TheInside as locks
use Rattle.jc_monitor_world.specs.declared.frames.SynchronizedFrames.TheInside as frames
use Rattle.jc_monitor_world.specs.Seen.{held_of, frame_of}

-- ---- locks

-- those that are held, and the memory in which they lie
pub record LocksSeen : Type 0 where
  pub held : List Held
  pub memory : Allocation

abbrev pub locks_of : locks.Inside → LocksSeen
locks_of l = record { held = map held_of (take l.count l.slots.items); memory = allocation_of l.slots }

-- there is room for 4,096
pub record AreRoomyLocks (l : locks.Inside) : Type 0 where
  pub slots : length l.slots.items ≡ 4096
  pub within : l.count ≤ 4096

-- ---- frames of synchronized methods

-- the deepest first, and the memory in which they lie
pub record FramesSeen : Type 0 where
  pub frames : List SynchronizedFrame
  pub memory : Allocation

abbrev pub frames_of : frames.Inside → FramesSeen
frames_of f = record { frames = map frame_of (reverse (take f.count f.slots.items)); memory = allocation_of f.slots }

-- there is room for 128
pub record AreRoomyFrames (f : frames.Inside) : Type 0 where
  pub slots : length f.slots.items ≡ 128
  pub within : f.count ≤ 128
