-- The law of runs with locks.
use Rattle.std.proofs.Common.{◌≡◌, ℕ, zero, suc, List, [], ◌∷◌, refl, sym, ◌∙◌, subst, subst₂}
use Rattle.std.specs.Prelude.{slice_index_or}
use Rattle.jc_programs.specs.declared.program.Program.{Program}
use Rattle.jc_programs.specs.declared.run_plan.Case.{Case}
use Rattle.jc_programs.specs.declared.run_plan.ThreadLine.{ThreadLine}
use Rattle.jc_programs.specs.declared.run_end.Entry.{Entry}
use Rattle.jc_programs.specs.Entries.{AreEntries}
use Rattle.jc_emit.specs.Marks.{Marks}
use Rattle.jc_twin_programs.specs.TwinProgram.{TwinProgram}
use Rattle.jc_machine_model.specs.Begin.{begin_case}
use Rattle.jc_monitor_model.specs.MonitorWorld.{MonitorWorld}
use Rattle.jc_monitor_model.specs.MonitorStep.{depth, monitor_step}
use Rattle.jc_monitor_model.specs.MonitorRun.{no_frames, monitor_begin_case, monitor_run_from}
use Rattle.jc_twin_simulation.specs.Schedules.{run_by, IsSimulated}
use Rattle.jc_twin_simulation.specs.Sides.{Side, AreSides, AreMarksOf}
use Rattle.jc_twin_simulation.specs.Laws.{AllByConstant}
use Rattle.jc_twin_simulation.proofs.SameLaws.{beside_same}
use Rattle.jc_twin_simulation.proofs.RunLaws.{is_simulated, is_simulated_by_constant}
use Rattle.jc_twin_simulation.proofs.ProgramRunLaws.{have_sides, cases_begin_beside, each_by_constant}
use Rattle.jc_twin_simulation.proofs.ScheduleLaws as schedules
use Rattle.jc_monitor_laws.specs.MonitorKept.{monitor_runs, is_monitor_kept, monitor_kept, IsMonitorSpread}
use Rattle.jc_monitor_laws.specs.SameMonitored.{RunsAreSame, KeptTurnsAreAlike, IsKeptBySpread, RowsAreShort, IsMonitoredAlike, SameMonitored}
use Rattle.jc_monitor_laws.proofs.ReleaseLaws.{AreWithin}
use Rattle.jc_monitor_laws.proofs.SystemLaws.{MonitorPair, kept_alike, monitor_rank, monitors_simulated}

-- a run is one of the system whose turns are those of the program
run_is : (program : Program) (turns : List ℕ) (m : MonitorWorld) → run_by (monitor_step program) m turns ≡ monitor_run_from program m turns
run_is program [] m = refl
run_is program (t ∷ turns) m = run_is program turns (monitor_step program m t)

-- no thread begins with frames of synchronized methods
none_at : (threads : List ThreadLine) (t : ℕ) → slice_index_or (no_frames threads) t [] ≡ []
none_at [] t = refl
none_at (line ∷ threads) zero = refl
none_at (line ∷ threads) (suc t) = none_at threads t

module _ (p p' : Program) (marks : Entry → Marks) (twin : TwinProgram p p')
    (sides : Entry → Side) (are : AreSides p p' sides) (told : AreMarksOf p p' marks sides) (case : Case) (entries : List Entry)
    (begins : AreEntries p case.threads entries) where
  abbrev Pair : MonitorWorld → MonitorWorld → Type 0
  Pair m m' = MonitorPair p p' sides marks are told m m'

  abbrev start : MonitorWorld
  start = monitor_begin_case p case

  abbrev start' : MonitorWorld
  start' = monitor_begin_case p' case

  pair : Pair start start'
  pair = record {
    beside = record { worlds = cases_begin_beside p p' marks sides twin are told case entries begins; held = refl; frames = refl };
    within = λ t runs. subst (AreWithin (depth p' (begin_case p' case) t)) (sym (none_at case.threads t)) tt;
  }

  -- ---- kept turns

  module _ (most : ℕ) (is : IsSimulated (monitor_step p) (monitor_step p') (is_monitor_kept p' marks) monitor_runs monitor_runs Pair
      (monitor_rank p p' sides marks are told) most) where
    pairs_run : (turns : List ℕ) → Pair (monitor_run_from p start (monitor_kept p' marks case turns)) (monitor_run_from p' start' turns)
    pairs_run turns =
        subst₂ Pair (run_is p (monitor_kept p' marks case turns) start) (run_is p' turns start')
        (schedules.same_run (monitor_step p) (monitor_step p') (is_monitor_kept p' marks) monitor_runs monitor_runs Pair
        (monitor_rank p p' sides marks are told) most is turns start start' pair)

    short_rows : RowsAreShort p p' marks case most
    short_rows t turns =
        schedules.few_probe_turns (monitor_step p) (monitor_step p') (is_monitor_kept p' marks) monitor_runs monitor_runs Pair
        (monitor_rank p p' sides marks are told) most is t turns start start' pair

  by_method : IsSimulated (monitor_step p) (monitor_step p') (is_monitor_kept p' marks) monitor_runs monitor_runs Pair
      (monitor_rank p p' sides marks are told) 17
  by_method = monitors_simulated p p' sides marks are told 17 (is_simulated p p' sides marks are told)

  by_constant : AllByConstant p p' → IsSimulated (monitor_step p) (monitor_step p') (is_monitor_kept p' marks) monitor_runs monitor_runs Pair
      (monitor_rank p p' sides marks are told) 9
  by_constant all =
      monitors_simulated p p' sides marks are told 9 (is_simulated_by_constant p p' sides marks are told (each_by_constant p p' sides all))

  runs_same : RunsAreSame p p' marks case
  runs_same turns =
      let h = (pairs_run 17 by_method turns).beside in
      record { world = beside_same p p' sides marks are told _ _ h.worlds; held = h.held; frames = h.frames }

  turns_alike : KeptTurnsAreAlike p p' marks case
  turns_alike turns t k = kept_alike p p' sides marks are told _ _ t (pairs_run 17 by_method turns) k

  -- ---- schedules

  spreads : (q others : List ℕ) → IsMonitorSpread p' marks case q others
      → schedules.Spreads (monitor_step p) (monitor_step p') (is_monitor_kept p' marks) monitor_runs monitor_runs Pair
      (monitor_rank p p' sides marks are told) 17 by_method q others start start'
  spreads q others is =
      schedules.spread_same (monitor_step p) (monitor_step p') (is_monitor_kept p' marks) monitor_runs monitor_runs Pair
      (monitor_rank p p' sides marks are told) 17 by_method q others start start' pair is

  kept_by_spread : (q : List ℕ) → IsKeptBySpread p p' marks case q
  kept_by_spread q =
      let s =
      schedules.spread_there (monitor_step p) (monitor_step p') (is_monitor_kept p' marks) monitor_runs monitor_runs Pair
      (monitor_rank p p' sides marks are told) 17 by_method q start start' pair in
      record {
        turns = s.0;
        spread = s.1;
        same = λ others is. sym (run_is p (monitor_kept p' marks case others) start) ∙ (spreads q others is).same ∙ run_is p q start;
        short = λ others is. (spreads q others is).short;
      }

  runs_alike : IsMonitoredAlike p p' marks case
  runs_alike = record {
    same = runs_same;
    alike = turns_alike;
    schedules = kept_by_spread;
    few = short_rows 17 by_method;
    fewer = λ all. short_rows 9 (by_constant all);
  }

pub monitored_alike : (p p' : Program) (case : Case) → SameMonitored p p' case
monitored_alike p p' case marks twin marked entries begins =
    let s = have_sides p p' marks twin marked in
    runs_alike p p' marks twin s.0 s.1 s.2 case entries begins
