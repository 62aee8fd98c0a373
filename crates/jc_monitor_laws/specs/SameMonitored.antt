-- The law of runs with locks of a program and of its twin.
use Rattle.std.specs.Prelude.{◌≡◌, ℕ, ◌*◌, ◌≤◌, true, List, length}
use Rattle.jc_programs.specs.declared.program.Program.{Program}
use Rattle.jc_programs.specs.declared.run_plan.Case.{Case}
use Rattle.jc_programs.specs.declared.run_end.Entry.{Entry}
use Rattle.jc_programs.specs.Entries.{AreEntries}
use Rattle.jc_emit.specs.Marks.{Marks}
use Rattle.jc_twin_programs.specs.TwinProgram.{TwinProgram}
use Rattle.jc_monitor_model.specs.MonitorTurns.{turn_of}
use Rattle.jc_monitor_model.specs.MonitorRun.{monitor_run}
use Rattle.jc_twin_simulation.specs.Marking.{AreMarks}
use Rattle.jc_twin_simulation.specs.Laws.{AllByConstant}
use Rattle.jc_monitor_laws.specs.MonitorKept.{is_monitor_kept, monitor_kept, monitor_row, IsMonitorSpread}
use Rattle.jc_monitor_laws.specs.MonitorSame.{MonitorSame}

module _ (p p' : Program) (marks : Entry → Marks) (case : Case) where
  -- A run of the twin leaves the same as the run of the original under its kept turns.
  abbrev pub RunsAreSame : Type 0
  RunsAreSame = (turns : List ℕ) → MonitorSame p' marks (monitor_run p case (monitor_kept p' marks case turns)) (monitor_run p' case turns)

  -- A kept turn is of one kind in both runs. So where a thread of the twin waits for a lock, that of the original does too.
  abbrev pub KeptTurnsAreAlike : Type 0
  KeptTurnsAreAlike = (turns : List ℕ) (t : ℕ) → is_monitor_kept p' marks (monitor_run p' case turns) t ≡ true
      → turn_of p (monitor_run p case (monitor_kept p' marks case turns)) t ≡ turn_of p' (monitor_run p' case turns) t

  -- Each schedule of the original is one of the twin, spread: the kept turns of the twin's run give the run of the original. So no
  -- schedule is lost. The twin's is at most 18 times as long.
  pub record IsKeptBySpread (q : List ℕ) : Type 0 where
    pub turns : List ℕ
    pub spread : IsMonitorSpread p' marks case q turns
    pub same : (others : List ℕ) → IsMonitorSpread p' marks case q others
        → monitor_run p case (monitor_kept p' marks case others) ≡ monitor_run p case q
    pub short : (others : List ℕ) → IsMonitorSpread p' marks case q others → length others ≤ 18 * length q

  -- a thread takes at most so many probe turns in a row, wherever the run is cut
  abbrev pub RowsAreShort : ℕ → Type 0
  RowsAreShort most = (t : ℕ) (turns : List ℕ) → monitor_row p' marks case t turns ≤ most

  pub record IsMonitoredAlike : Type 0 where
    pub same : RunsAreSame
    pub alike : KeptTurnsAreAlike
    pub schedules : (q : List ℕ) → IsKeptBySpread q
    pub few : RowsAreShort 17
    -- fewer, where each class that has probes gets its array by a constant
    pub fewer : AllByConstant p p' → RowsAreShort 9

-- where the one program is the twin of the other, and the threads of the case have entries; `marks` says of each instruction of the
-- twin what it is, which the two programs tell
abbrev pub SameMonitored : (before after : Program) → Case → Type 0
SameMonitored before after case = (marks : Entry → Marks) → TwinProgram before after → AreMarks before after marks
    → (entries : List Entry) → AreEntries before case.threads entries → IsMonitoredAlike before after marks case
