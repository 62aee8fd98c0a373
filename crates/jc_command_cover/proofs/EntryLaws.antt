-- Threads without a method to begin with, in a program and in the program without its frames.
use Rattle.std.proofs.Common.{◌≡◌, ℕ, Option, None, Some, option_map, refl, ◌∙◌, ap}
use Rattle.jc_programs.specs.declared.program.Program.{Program}
use Rattle.jc_programs.specs.declared.run_plan.RunPlan.{RunPlan}
use Rattle.jc_programs.specs.declared.run_plan.ThreadLine.{ThreadLine}
use Rattle.jc_machine_laws.specs.Frameless.{frameless}
use Rattle.jc_command_run.specs.RunStore.{threads_of, first_without}
use Rattle.jc_command_run.proofs.StoreLaws.{same_without}
use Rattle.jc_command_run.specs.Beginnings.{line_of}
use Rattle.jc_command_work.specs.Step.{Word}
use Rattle.jc_command_work.specs.Answered.{refusal_of}
use Rattle.jc_command_work.specs.declared.status.Fault.TheVariants as faults
use Rattle.jc_headline.specs.CoverWork.{IsEntryEnd}

module _ (p : Program) (plan : RunPlan) where
  pub entries_there : first_without p (threads_of plan) ≡ None → first_without (frameless p) (threads_of plan) ≡ None
  entries_there none = same_without p (threads_of plan) ∙ none

  -- the thread of the line that was found
  pub entry_end : (path : Word) (line : ℕ) → Some line ≡ option_map line_of (first_without p (threads_of plan)) → IsEntryEnd path (frameless p) plan (refusal_of path (faults.NoEntry line))
  entry_end path line = by (first_without p (threads_of plan)) refl
    where
      no_line : Some line ≡ None → ⊥
      no_line e = cc

      same_line : (thread : ThreadLine) → Some line ≡ Some thread.line → line ≡ thread.line
      same_line thread e = cc

      by : (o : Option ThreadLine) → first_without p (threads_of plan) ≡ o → Some line ≡ option_map line_of o → IsEntryEnd path (frameless p) plan (refusal_of path (faults.NoEntry line))
      by None is e = absurd (no_line e)
      by (Some thread) is e = (thread, same_without p (threads_of plan) ∙ is, ap (λ (n : ℕ). refusal_of path (faults.NoEntry n)) (same_line thread e))
