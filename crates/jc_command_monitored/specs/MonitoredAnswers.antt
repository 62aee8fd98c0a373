-- What the command `run --monitors` makes of a run plan and class files.
use Rattle.std.specs.Prelude.{◌≡◌, ℕ, List, [], ◌∷◌, Option}
use Rattle.jc_programs.specs.declared.program.Program.{Program}
use Rattle.jc_programs.specs.declared.run_plan.RunPlan.{RunPlan}
use Rattle.jc_programs.specs.declared.run_plan.ThreadLine.{ThreadLine}
use Rattle.jc_monitor_runs.specs.MonitorTexts.{monitor_texts, monitor_hits_of}
use Rattle.jc_command_work.specs.Step.{Word}
use Rattle.jc_command_work.specs.Answered.{Answer}
use Rattle.jc_command_run.specs.RunAnswers.{answer_with, DecidedBy}
use Rattle.jc_command_run.specs.RunStore.{threads_of, first_without, store_of}

-- The execution data is of what the cases hit, and the text is what they print, each case under its number from 1. The first thread
-- without a method to begin with is named as by `run`.
abbrev pub monitored_answer : (plan exec : Word) → RunPlan → Program → Option ThreadLine → Answer
monitored_answer plan exec p program without = answer_with plan exec (store_of program (monitor_hits_of program p)) (monitor_texts program 1 p.cases) without

abbrev pub IsMonitoredAnswer : (plan exec : Word) → RunPlan → Program → Answer → Type 0
IsMonitoredAnswer plan exec p program answer = answer ≡ monitored_answer plan exec p program (first_without program (threads_of p))

abbrev pub MonitoredFiles : (plan exec : Word) (paths : List Word) (plan_text : List ℕ) (files : List (List ℕ)) → Answer → Type 0
MonitoredFiles plan exec paths plan_text files = DecidedBy (IsMonitoredAnswer plan exec) plan paths plan_text files

-- the run plan is read first, and then the files
abbrev pub MonitoredAnswers : (plan exec : Word) (paths : List Word) → List (List ℕ) → Answer → Type 0
MonitoredAnswers plan exec paths [] answer = ⊥
MonitoredAnswers plan exec paths (plan_text ∷ files) answer = MonitoredFiles plan exec paths plan_text files answer
