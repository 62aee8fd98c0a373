-- The turns of a twin's run with locks that are turns of the original too, how many others there are in a row, and schedules of the
-- original as schedules of the twin.
use Rattle.std.specs.Prelude.{ℕ, Bool, List}
use Rattle.jc_programs.specs.declared.program.Program.{Program}
use Rattle.jc_programs.specs.declared.run_plan.Case.{Case}
use Rattle.jc_programs.specs.declared.run_end.Entry.{Entry}
use Rattle.jc_emit.specs.Marks.{Marks}
use Rattle.jc_monitor_model.specs.MonitorWorld.{MonitorWorld}
use Rattle.jc_monitor_model.specs.MonitorStep.{monitor_step}
use Rattle.jc_monitor_model.specs.MonitorRun.{monitor_begin_case}
use Rattle.jc_twin_simulation.specs.Schedules.{kept_by, row_by, IsSpreadBy}
use Rattle.jc_twin_simulation.specs.Kept.{runs, is_kept}

-- the thread is running; one that waits for a lock is
abbrev pub monitor_runs : MonitorWorld → ℕ → Bool
monitor_runs m t = runs m.world t

-- `marks` says of each instruction of the twin of a method what it is
module _ (p' : Program) (marks : Entry → Marks) where
  -- The next turn of the thread is kept: it stands at an own instruction. So it is where the thread waits for a lock there.
  abbrev pub is_monitor_kept : MonitorWorld → ℕ → Bool
  is_monitor_kept m t = is_kept p' marks m.world t

  -- those of the turns that are kept, in order
  abbrev pub monitor_kept : Case → List ℕ → List ℕ
  monitor_kept case turns = kept_by (monitor_step p') is_monitor_kept (monitor_begin_case p' case) turns

  -- how many probe turns in a row the thread has taken at the end of these turns
  abbrev pub monitor_row : Case → (t : ℕ) → List ℕ → ℕ
  monitor_row case t turns = row_by (monitor_step p') is_monitor_kept monitor_runs (monitor_begin_case p' case) t turns 0

  -- In front of each turn of a thread that runs stand as many turns of it as bring it to an own instruction. Turns of other threads
  -- are left out.
  abbrev pub IsMonitorSpread : Case → (q turns : List ℕ) → Type 0
  IsMonitorSpread case q turns = IsSpreadBy (monitor_step p') is_monitor_kept monitor_runs (monitor_begin_case p' case) q turns
