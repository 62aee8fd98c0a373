-- Runs with locks: turns one after another.
use Rattle.std.specs.Prelude.{ℕ, List, [], ◌∷◌, map}
use Rattle.jc_programs.specs.declared.program.Program.{Program}
use Rattle.jc_programs.specs.declared.run_plan.ThreadLine.{ThreadLine}
use Rattle.jc_programs.specs.declared.run_plan.Case.{Case}
use Rattle.jc_programs.specs.declared.run_end.Entry.{Entry}
use Rattle.jc_machine_model.specs.World.{World}
use Rattle.jc_machine_model.specs.Begin.{begin, begin_case}
use Rattle.jc_monitor_model.specs.SynchronizedFrames.{SynchronizedFrame}
use Rattle.jc_monitor_model.specs.MonitorWorld.{MonitorWorld}
use Rattle.jc_monitor_model.specs.MonitorStep.{monitor_step}

abbrev pub no_frames : List ThreadLine → List (List SynchronizedFrame)
no_frames threads = map (λ (line : ThreadLine). []) threads

-- the world in which no lock is held
abbrev pub unlocked : List ThreadLine → World → MonitorWorld
unlocked threads w = record { world = w; held = []; frames = no_frames threads }

-- the world in which a case begins, whose threads begin with these methods
abbrev pub monitor_begin : Program → List ThreadLine → List Entry → MonitorWorld
monitor_begin program threads entries = unlocked threads (begin program threads entries)

abbrev pub monitor_begin_case : Program → Case → MonitorWorld
monitor_begin_case program case = unlocked case.threads (begin_case program case)

-- these turns, one after another
abbrev pub monitor_run_from : Program → MonitorWorld → List ℕ → MonitorWorld
monitor_run_from program m [] = m
monitor_run_from program m (t ∷ turns) = monitor_run_from program (monitor_step program m t) turns

abbrev pub monitor_run : Program → Case → List ℕ → MonitorWorld
monitor_run program case turns = monitor_run_from program (monitor_begin_case program case) turns
