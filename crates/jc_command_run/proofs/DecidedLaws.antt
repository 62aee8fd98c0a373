-- What is decided of a run plan's text and class files.
use Rattle.std.proofs.Common.{◌≡◌, inl, inr, ℕ, List, [], ◌∷◌, Option, None, Some, Result, Ok, Err, Vec, refl, sym, ◌∙◌, ap, ap₂}
use Rattle.std.specs.List.{AllByRecursion}
use Rattle.std.specs.declared.alloc.Global.{Global}
use Rattle.jc_bytes.specs.ByteLists.{AreBytes}
use Rattle.jc_exec.specs.Store.{Store}
use Rattle.jc_run_plans.specs.Plans.{IsPlanText}
use Rattle.jc_link_programs.specs.Linking.{IsProgramOf}
use Rattle.jc_programs.specs.declared.program.Program.{Program}
use Rattle.jc_programs.specs.declared.run_plan.RunPlan.{RunPlan}
use Rattle.jc_programs.specs.declared.run_plan.ThreadLine.{ThreadLine}
use Rattle.jc_machine_laws.specs.Frameless.{frameless}
use Rattle.jc_machine_laws.proofs.FramelessTextLaws.{same_texts}
use Rattle.jc_command_work.specs.declared.output.Write.{Write as Written}
use Rattle.jc_command_work.specs.declared.stop.Stop.{Stop}
use Rattle.jc_command_work.specs.Step.{Word, AreTexts}
use Rattle.jc_command_work.specs.Part.{End, stops}
use Rattle.jc_command_work.specs.Answered.{Answer, EndsSo, AnswersWith}
use Rattle.jc_command_work.specs.Seen.{stop_seen}
use Rattle.jc_command_run.specs.RunAnswers.{answer_with, run_answer, IsRunAnswer, DecidedBy, RunsFiles}
use Rattle.jc_command_run.specs.RunStore.{threads_of, first_without}
use Rattle.jc_command_run.proofs.StoreLaws.{same_store, same_without}
use Rattle.jc_command_run.specs.PlanStops.{PlanStops}
use Rattle.jc_command_run.specs.Clash.{LinkStops, PlannedStops}

-- ---- a program and it without its frames

module _ (plan exec : Word) (p : RunPlan) (program : Program) where
  same_answer : (o : Option ThreadLine) → run_answer plan exec p (frameless program) o ≡ run_answer plan exec p program o
  same_answer o = ap₂ (λ (store : Store) (text : List ℕ). answer_with plan exec store text o) (same_store program p) (same_texts program 1 p.cases)

  -- what is written of the program is what is written of it without its frames
  pub frameless_answer : run_answer plan exec p (frameless program) (first_without (frameless program) (threads_of p)) ≡ run_answer plan exec p program (first_without program (threads_of p))
  frameless_answer = ap (run_answer plan exec p (frameless program)) (same_without program (threads_of p)) ∙ same_answer (first_without program (threads_of p))

-- ---- the decisions, one behind the other

module _ (Makes : RunPlan → Program → Answer → Type 0) (plan : Word) (paths : List Word) (text : List ℕ) (files : List (List ℕ)) where
  abbrev Decided : Answer → Type 0
  Decided = DecidedBy Makes plan paths text files

  plan_refused : (o : Option End) → PlanStops plan text o → EndsSo Decided o
  plan_refused None so = tt
  plan_refused (Some end) so = inr (end, so, refl)

  files_refused : (p : RunPlan) → IsPlanText text p → (o : Option End) → LinkStops paths files o → EndsSo Decided o
  files_refused p is None so = tt
  files_refused p is (Some end) so = inl (p, is, inr (end, so, refl))

  pub planned_stops : (o : Option End) → PlannedStops plan paths text files o → EndsSo Decided o
  planned_stops o (inl so) = plan_refused o so
  planned_stops o (inr (p, is, so)) = files_refused p is o so

  -- what is made of the program is made of it without its frames
  pub program_decides : (p : RunPlan) → IsPlanText text p → (program : Program) → IsProgramOf files program → ((a : Answer) → Makes p program a → Makes p (frameless program) a)
      → (r : Result (Vec Written Global) Stop) → AnswersWith (Makes p program) r → AnswersWith Decided r
  program_decides p is program of same (Ok writes) so = inl (p, is, inl (frameless program, (program, of, refl), same _ so))
  program_decides p is program of same (Err stop) so = by (stop_seen stop) so
    where
      by : (o : Option End) → EndsSo (Makes p program) o → EndsSo Decided o
      by None ends = tt
      by (Some end) ends = inl (p, is, inl (frameless program, (program, of, refl), same (stops end) ends))

pub program_runs : (plan exec : Word) (paths : List Word) (text : List ℕ) (files : List (List ℕ)) (p : RunPlan) → IsPlanText text p
    → (program : Program) → IsProgramOf files program
    → (r : Result (Vec Written Global) Stop) → AnswersWith (IsRunAnswer plan exec p program) r → AnswersWith (RunsFiles plan exec paths text files) r
program_runs plan exec paths text files p is program of =
    program_decides (IsRunAnswer plan exec) plan paths text files p is program of (λ a made. made ∙ sym (frameless_answer plan exec p program))

-- ---- files

pub are_bytes : (paths : List Word) (texts : List (List ℕ)) → AreTexts paths texts → AllByRecursion AreBytes texts
are_bytes [] [] are = tt
are_bytes [] (t ∷ ts) are = absurd are
are_bytes (p ∷ ps) [] are = absurd are
are_bytes (p ∷ ps) (t ∷ ts) are = (are.0.are_bytes, are_bytes ps ts are.1)
