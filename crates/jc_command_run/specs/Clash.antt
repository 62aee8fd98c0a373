-- How class files that are no program, and run plans beside them, stop a command.
use Rattle.std.specs.Prelude.{⊤, ◌⊎◌, ℕ, List, ◌++◌, codes, Option, None, Some}
use Rattle.jc_programs.specs.declared.run_plan.RunPlan.{RunPlan}
use Rattle.jc_run_plans.specs.Plans.{IsPlanText}
use Rattle.jc_link_programs.specs.declared.link_refusal.LinkRefusal.{LinkRefusal}
use Rattle.jc_command_work.specs.Step.{Word}
use Rattle.jc_command_work.specs.Texts.{hex_text}
use Rattle.jc_command_work.specs.Part.{End}
use Rattle.jc_command_run.specs.PlanStops.{PlanStops}
use Rattle.jc_command_run.specs.RunAnswers.{EndsAs, IsLinkEnd}

-- an id at the end of a line
abbrev pub id_end : ℕ → List ℕ
id_end id = codes "id " ++ (hex_text id ++ codes "\n")

-- the command ends as this reason ends it, or memory was refused
abbrev pub StopsAs : List Word → List (List ℕ) → LinkRefusal → Option End → Type 0
StopsAs paths files r None = ⊤
StopsAs paths files r (Some end) = EndsAs paths files r end

-- the command ends as files end it that are no program, or memory was refused
abbrev pub LinkStops : List Word → List (List ℕ) → Option End → Type 0
LinkStops paths files None = ⊤
LinkStops paths files (Some end) = IsLinkEnd paths files end

-- the command ends as a run plan's text that is refused ends it, or files behind one that isn't; or memory was refused
abbrev pub PlannedStops : (plan : Word) (paths : List Word) (plan_text : List ℕ) (files : List (List ℕ)) → Option End → Type 0
PlannedStops plan paths plan_text files end = PlanStops plan plan_text end ⊎ ((p : RunPlan) × IsPlanText plan_text p × LinkStops paths files end)
