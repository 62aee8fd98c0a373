-- What is written of a program is what is written of it without its frames.
use Rattle.std.proofs.Common.{◌≡◌, ℕ, List, sym, ◌∙◌, ap, ap₂}
use Rattle.jc_exec.specs.Store.{Store}
use Rattle.jc_programs.specs.declared.program.Program.{Program}
use Rattle.jc_programs.specs.declared.run_plan.RunPlan.{RunPlan}
use Rattle.jc_machine_laws.specs.Frameless.{frameless}
use Rattle.jc_monitor_runs.specs.MonitorTexts.{monitor_texts, monitor_hits_of}
use Rattle.jc_monitor_runs.proofs.FramelessRunLaws.{same_monitor_texts, same_monitor_hits}
use Rattle.jc_command_work.specs.Step.{Word}
use Rattle.jc_command_work.specs.Answered.{Answer}
use Rattle.jc_command_run.specs.RunAnswers.{answer_with}
use Rattle.jc_command_run.specs.RunStore.{threads_of, first_without, store_of}
use Rattle.jc_command_run.proofs.StoreLaws.{same_store_of, same_without}
use Rattle.jc_command_monitored.specs.MonitoredAnswers.{monitored_answer, IsMonitoredAnswer}

module _ (plan exec : Word) (p : RunPlan) (program : Program) where
  same_store : store_of (frameless program) (monitor_hits_of (frameless program) p) ≡ store_of program (monitor_hits_of program p)
  same_store = ap (store_of (frameless program)) (same_monitor_hits program p) ∙ same_store_of program (monitor_hits_of program p)

  same_answer : monitored_answer plan exec p (frameless program) (first_without (frameless program) (threads_of p))
      ≡ monitored_answer plan exec p program (first_without program (threads_of p))
  same_answer =
      ap (monitored_answer plan exec p (frameless program)) (same_without program (threads_of p))
      ∙ ap₂ (λ (store : Store) (text : List ℕ). answer_with plan exec store text (first_without program (threads_of p))) same_store
      (same_monitor_texts program 1 p.cases)

  pub frameless_makes : (a : Answer) → IsMonitoredAnswer plan exec p program a → IsMonitoredAnswer plan exec p (frameless program) a
  frameless_makes a made = made ∙ sym same_answer
