-- The world of a case with its locks (JVM Specification 2.11.10).
use Rattle.std.specs.Prelude.{ℕ, List, [], slice_index_or}
use Rattle.jc_machine_model.specs.World.{World}
use Rattle.jc_monitor_model.specs.Locks.{Held}
use Rattle.jc_monitor_model.specs.SynchronizedFrames.{SynchronizedFrame}

pub record MonitorWorld : Type 0 where
  pub world : World
  -- the locks that are held, in the order in which they were taken
  pub held : List Held
  -- for each thread its frames of synchronized methods that were entered with a lock, the deepest first
  pub frames : List (List SynchronizedFrame)

abbrev pub frames_of : MonitorWorld → ℕ → List SynchronizedFrame
frames_of m t = slice_index_or m.frames t []

abbrev pub in_world : MonitorWorld → World → MonitorWorld
in_world m w = record m { world = w }
