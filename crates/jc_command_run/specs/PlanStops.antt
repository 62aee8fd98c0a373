-- How a text that is no run plan stops a command.
use Rattle.std.specs.Prelude.{⊤, ℕ, List, Option, None, Some}
use Rattle.std.specs.Borrow.{Bor}
use Rattle.jc_bytes.specs.declared.fail.Fail.{Fail}
use Rattle.jc_bytes.specs.declared.fail.Fail.TheVariants as fails
use Rattle.jc_run_plans.specs.declared.plan_refusal.PlanRefusal.{PlanRefusal}
use Rattle.jc_command_work.specs.declared.status.Fault.TheVariants as faults
use Rattle.jc_command_work.specs.declared.stop.Stop.{Stop}
use Rattle.jc_command_work.specs.declared.stop.Stop.TheVariants as stops
use Rattle.jc_command_work.specs.Step.{Word}
use Rattle.jc_command_work.specs.Part.{End}
use Rattle.jc_command_run.specs.RunAnswers.{IsPlanEnd}

abbrev pub plan_stop : Fail PlanRefusal → Bor (List ℕ) → Stop
plan_stop fails.Memory plan = stops.Memory
plan_stop (fails.Said refusal) plan = stops.Refused plan (faults.Plan refusal.line)

-- the command ends as a run plan's text that is refused ends it, or memory was refused
abbrev pub PlanStops : (plan : Word) → List ℕ → Option End → Type 0
PlanStops plan text None = ⊤
PlanStops plan text (Some end) = IsPlanEnd plan text end
