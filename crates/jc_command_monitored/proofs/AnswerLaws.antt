-- A run plan's text and class files have one answer of `run --monitors`.
use Rattle.std.proofs.Common.{◌≡◌, ◌⊎◌, ℕ, List, ◌∷◌, refl, sym, ◌∙◌}
use Rattle.jc_run_plans.specs.Plans.{IsPlanText, FirstUnfit}
use Rattle.jc_programs.specs.declared.program.Program.{Program}
use Rattle.jc_programs.specs.declared.run_plan.RunPlan.{RunPlan}
use Rattle.jc_monitor_runs.specs.MonitorTexts.{monitor_texts, monitor_hits_of}
use Rattle.jc_command_work.specs.Step.{Word}
use Rattle.jc_command_work.specs.Answered.{HasOneAnswer}
use Rattle.jc_command_run.specs.RunStore.{threads_of, first_without, store_of}
use Rattle.jc_command_run.proofs.AnswerLaws.{SomeAnswer, answer_over, one_answer_by}
use Rattle.jc_command_run.proofs.RunLaws.{OnePlan}
use Rattle.jc_command_monitored.specs.MonitoredAnswers.{monitored_answer, IsMonitoredAnswer, MonitoredAnswers}

some_answer : (plan exec : Word) (p : RunPlan) (program : Program) → SomeAnswer (IsMonitoredAnswer plan exec p program)
some_answer plan exec p program = record {
  answer = monitored_answer plan exec p program (first_without program (threads_of p));
  over = answer_over plan exec (store_of program (monitor_hits_of program p)) (monitor_texts program 1 p.cases) (first_without program (threads_of p));
  holds = refl;
}

pub one_answer : OnePlan → ((text : List ℕ) → ((p : RunPlan) × IsPlanText text p) ⊎ ((line : ℕ) × FirstUnfit text line))
    → (plan exec : Word) (paths : List Word) (text : List ℕ) → HasOneAnswer paths (λ read. MonitoredAnswers plan exec paths (text ∷ read))
one_answer laws each plan exec paths text =
    one_answer_by (IsMonitoredAnswer plan exec) (some_answer plan exec) laws each (λ p program a b is is'. is ∙ sym is') plan paths text
