-- What is the same in a world with locks of a program and in one of its twin.
use Rattle.std.specs.Prelude.{◌≡◌}
use Rattle.jc_programs.specs.declared.program.Program.{Program}
use Rattle.jc_programs.specs.declared.run_end.Entry.{Entry}
use Rattle.jc_emit.specs.Marks.{Marks}
use Rattle.jc_monitor_model.specs.MonitorWorld.{MonitorWorld}
use Rattle.jc_twin_simulation.specs.Same.{Same}

-- The worlds look the same, the same locks are held, and each thread has the same frames of synchronized methods.
pub record MonitorSame (p' : Program) (marks : Entry → Marks) (m m' : MonitorWorld) : Type 0 where
  pub world : Same p' marks m.world m'.world
  pub held : m'.held ≡ m.held
  pub frames : m'.frames ≡ m.frames
