-- The writes of a program that was run, one behind the other.
use Rattle.std.proofs.Common.{◌≡◌, ℕ, List, Option, Result, Ok, Err, sym, subst}
use Rattle.jc_exec.specs.Store.{Store}
use Rattle.jc_exec.specs.Writing.{exec_text}
use Rattle.jc_programs.specs.declared.program.Program.{Program}
use Rattle.jc_programs.specs.declared.run_plan.RunPlan.{RunPlan}
use Rattle.jc_machine_model.specs.CaseText.{case_texts}
use Rattle.jc_command_work.specs.Step.{Outside, Counts, Landed, to_file, to_out}
use Rattle.jc_command_work.specs.Part.{End, done, gives, Part, Command, ending, deciding, writing, ◌>>=◌}
use Rattle.jc_command_work.specs.Ending.{CameTo, Stops, Does, Ran}
use Rattle.jc_command_work.specs.Seen.{stop_seen}
use Rattle.jc_command_work.specs.declared.stop.Stop.{Stop}
use Rattle.jc_command_run.specs.RunStore.{run_store}
use Rattle.jc_headline.specs.CoverWork.{Cover, LookedFile, accepted_texts, IsReportText, IsClashEnd}
use Rattle.jc_command_cover.specs.CoverSeen.{writing_results}
use Rattle.jc_command_cover.specs.Deciding.{StopsBy}
use Rattle.jc_command_cover.proofs.ChainLaws.{ran_then, ran_stopped, ran_at_last, came_decided}

module _ (landed : Landed) (c : Cover) (plan : RunPlan) (looked : List LookedFile) (program : Program) where
  -- what is behind each part
  abbrev Reports : List ℕ → Type 0
  Reports = IsReportText c.name (run_store program plan) (accepted_texts looked)

  abbrev Clashes : End → Type 0
  Clashes = IsClashEnd c.exec (run_store program plan) (accepted_texts looked)

  abbrev printing : Command
  printing = writing (to_out (case_texts program 1 plan.cases)) >>= λ _. ending done

  abbrev reporting : List ℕ → Command
  reporting csv = writing (to_file c.csv csv) >>= λ _. printing

  abbrev deciding_report : Command
  deciding_report = deciding Reports Clashes >>= reporting

  module _ (old : Outside) (f : Counts) (bytes : List ℕ) (is : bytes ≡ exec_text (run_store program plan)) where
    abbrev part : Part (Unit {0})
    part = writing (to_file c.exec (exec_text (run_store program plan)))

    pub exec_unwritten : (new : Outside) (f' : Counts) (o : Option End) → Stops landed (writing (to_file c.exec bytes)) old new f f' o
        → Stops landed (writing_results c plan looked program) old new f f' o
    exec_unwritten new f' o stopped =
        ran_stopped landed part (λ _. deciding_report) old f new f' o (subst (λ (b : List ℕ). Stops landed (writing (to_file c.exec b)) old new f f' o) is stopped)

    module _ (mid : Outside) (g : Counts) (wrote : (g ≡ f) × CameTo landed (writing (to_file c.exec bytes)) old mid (gives tt)) where
      written : (g ≡ f) × CameTo landed part old mid (gives tt)
      written = subst (λ (b : List ℕ). (g ≡ f) × CameTo landed (writing (to_file c.exec b)) old mid (gives tt)) is wrote

      -- the execution data stands, and the rest goes on
      rest : (new : Outside) (f' : Counts) (r : Result (Unit {0}) Stop) → Ran landed deciding_report stop_seen mid new g f' r
          → Ran landed (writing_results c plan looked program) stop_seen old new f f' r
      rest new f' r ran = ran_then landed part (λ _. deciding_report) old f stop_seen tt mid new g f' r written ran

      pub no_report : (store : Store) (texts : List (List ℕ)) → store ≡ run_store program plan → texts ≡ accepted_texts looked → (stop : Stop)
          → StopsBy (IsClashEnd c.exec store texts) (stop_seen stop)
          → Stops landed (writing_results c plan looked program) old mid f g (stop_seen stop)
      no_report store texts same same' stop found =
          let so = subst (λ (ts : List (List ℕ)). StopsBy (IsClashEnd c.exec (run_store program plan) ts) (stop_seen stop)) same'
          (subst (λ (s : Store). StopsBy (IsClashEnd c.exec s texts) (stop_seen stop)) same found) in
          rest mid g (Err stop) (ran_stopped landed (deciding Reports Clashes) reporting mid g mid g (stop_seen stop)
          (came_decided {A = List ℕ} landed Reports Clashes mid g (λ csv. csv) stop_seen (Err stop) so))

      module _ (csv : List ℕ) (reports : Reports csv) where
        behind : (new : Outside) (f' : Counts) (r : Result (Unit {0}) Stop) → Ran landed (reporting csv) stop_seen mid new g f' r
            → Ran landed (writing_results c plan looked program) stop_seen old new f f' r
        behind new f' r ran =
            rest new f' r (ran_then landed (deciding Reports Clashes) reporting mid g stop_seen csv mid new g f' r
            (came_decided {E = Stop} landed Reports Clashes mid g (λ x. x) stop_seen (Ok csv) reports) ran)

        pub report_unwritten : (new : Outside) (f' : Counts) (stop : Stop) → Stops landed (writing (to_file c.csv csv)) mid new g f' (stop_seen stop)
            → Stops landed (writing_results c plan looked program) old new f f' (stop_seen stop)
        report_unwritten new f' stop stopped = behind new f' (Err stop) (ran_stopped landed (writing (to_file c.csv csv)) (λ _. printing) mid g new f' (stop_seen stop) stopped)

        pub results_written : (next new : Outside) (h f' : Counts) (text : List ℕ) (r : Result (Unit {0}) Stop) → text ≡ case_texts program 1 plan.cases
            → (h ≡ g) × CameTo landed (writing (to_file c.csv csv)) mid next (gives tt) → Does landed (writing (to_out text)) (λ _. tt) stop_seen next new h f' r
            → Ran landed (writing_results c plan looked program) stop_seen old new f f' r
        results_written next new h f' text r text_is reported printed =
            behind new f' r (ran_then landed (writing (to_file c.csv csv)) (λ _. printing) mid g stop_seen tt next new h f' r reported
            (ran_at_last landed (writing (to_out (case_texts program 1 plan.cases))) next new h f' stop_seen r
            (subst (λ (t : List ℕ). Does landed (writing (to_out t)) (λ _. tt) stop_seen next new h f' r) text_is printed)))

  -- the report by the execution data and the files that were given
  pub is_report : (store : Store) (texts : List (List ℕ)) (csv bytes : List ℕ) → store ≡ run_store program plan → texts ≡ accepted_texts looked → bytes ≡ csv
      → IsReportText c.name store texts csv → Reports bytes
  is_report store texts csv bytes same same' bytes_are reports =
      subst (λ (b : List ℕ). Reports b) (sym bytes_are)
      (subst (λ (ts : List (List ℕ)). IsReportText c.name (run_store program plan) ts csv) same' (subst (λ (s : Store). IsReportText c.name s texts csv) same reports))
