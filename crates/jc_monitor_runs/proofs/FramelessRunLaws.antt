-- Runs with locks of a program without frames.
use Rattle.std.proofs.Common.{◌≡◌, ℕ, ◌+◌, List, [], ◌∷◌, ◌++◌, refl, ap, ap₂, ◌∙◌}
use Rattle.std.specs.List.{flat_map}
use Rattle.jc_programs.specs.declared.program.Program.{Program}
use Rattle.jc_programs.specs.declared.run_plan.Case.{Case}
use Rattle.jc_programs.specs.declared.run_plan.RunPlan.{RunPlan}
use Rattle.jc_programs.specs.Turns.{turns_in}
use Rattle.jc_machine_model.specs.Begin.{begin, entries_of}
use Rattle.jc_machine_model.specs.CaseEnds.{case_end_in}
use Rattle.jc_machine_model.specs.CaseText.{case_text}
use Rattle.jc_machine_model.specs.World.{Hit}
use Rattle.jc_machine_laws.specs.Frameless.{frameless}
use Rattle.jc_machine_laws.proofs.FramelessStepLaws.{same_begin, same_entries}
use Rattle.jc_machine_laws.proofs.FramelessTextLaws.{same_end, same_text}
use Rattle.jc_monitor_model.specs.MonitorWorld.{MonitorWorld}
use Rattle.jc_monitor_model.specs.MonitorStep.{monitor_step}
use Rattle.jc_monitor_model.specs.MonitorRun.{unlocked, monitor_begin_case, monitor_run_from, monitor_run}
use Rattle.jc_monitor_runs.specs.MonitorTexts.{monitor_last, monitor_case_end, monitor_texts, monitor_hits_of}
use Rattle.jc_monitor_runs.proofs.FramelessMonitorLaws.{same_monitor_step}

module _ (p : Program) where
  same_run_from : (m : MonitorWorld) (turns : List ℕ) → monitor_run_from (frameless p) m turns ≡ monitor_run_from p m turns
  same_run_from m [] = refl
  same_run_from m (t ∷ turns) =
      ap (λ (n : MonitorWorld). monitor_run_from (frameless p) n turns) (same_monitor_step p m t) ∙ same_run_from (monitor_step p m t) turns

  same_begin_case : (case : Case) → monitor_begin_case (frameless p) case ≡ monitor_begin_case p case
  same_begin_case case =
      ap (unlocked case.threads)
      (ap (begin (frameless p) case.threads) (same_entries p case.threads) ∙ same_begin p case.threads (entries_of p case.threads))

  pub same_monitor_run : (case : Case) (turns : List ℕ) → monitor_run (frameless p) case turns ≡ monitor_run p case turns
  same_monitor_run case turns =
      ap (λ (m : MonitorWorld). monitor_run_from (frameless p) m turns) (same_begin_case case) ∙ same_run_from (monitor_begin_case p case) turns

  same_last : (case : Case) → monitor_last (frameless p) case ≡ monitor_last p case
  same_last case = ap (λ (m : MonitorWorld). m.world) (same_monitor_run case (turns_in case))

  same_case_end : (case : Case) → monitor_case_end (frameless p) case ≡ monitor_case_end p case
  same_case_end case = ap (case_end_in (frameless p)) (same_last case) ∙ same_end p (monitor_last p case)

  pub same_monitor_texts : (k : ℕ) (cases : List Case) → monitor_texts (frameless p) k cases ≡ monitor_texts p k cases
  same_monitor_texts k [] = refl
  same_monitor_texts k (case ∷ cases) =
      ap₂ (λ (x y : List ℕ). x ++ y)
      (ap (case_text (frameless p) k) (same_case_end case) ∙ same_text p k (monitor_case_end p case))
      (same_monitor_texts (k + 1) cases)

  pub same_monitor_hits : (plan : RunPlan) → monitor_hits_of (frameless p) plan ≡ monitor_hits_of p plan
  same_monitor_hits plan = ap (λ (f : Case → List Hit). flat_map f plan.cases) (λ i case. (same_last case i).hits)
