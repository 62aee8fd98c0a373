-- By its dumps a run has one answer.
use Rattle.std.proofs.Common.{◌≡◌, ◌⊎◌, inl, inr, ℕ, List, [], ◌∷◌, Option, None, Some, option_map, refl, sym, ◌∙◌, ap}
use Rattle.jc_run_plans.specs.Plans.{IsPlanText, FirstUnfit}
use Rattle.jc_programs.specs.declared.program.Program.{Program}
use Rattle.jc_programs.specs.declared.run_plan.RunPlan.{RunPlan}
use Rattle.jc_programs.specs.declared.run_plan.ThreadLine.{ThreadLine}
use Rattle.jc_command_work.specs.Step.{Word}
use Rattle.jc_command_work.specs.declared.status.Fault.TheVariants as fault
use Rattle.jc_command_work.specs.Answered.{Answer, HasOneAnswer, refusing}
use Rattle.jc_command_work.specs.OneWay.{IsOver}
use Rattle.jc_command_run.specs.Beginnings.{line_of}
use Rattle.jc_command_run.specs.RunStore.{threads_of, first_without}
use Rattle.jc_command_run.proofs.AnswerLaws.{SomeAnswer, one_answer_by}
use Rattle.jc_command_run.proofs.RunLaws.{OnePlan}
use Rattle.jc_command_dumped.specs.DumpedAnswers.{Dumping, Taken, taken_answer, IsAnswerBy, IsDumpedAnswer, DumpedAnswers, AnswersBy}

pub no_dumps : Taken
no_dumps = record { dumps = []; rest = [] }

answer_over : (d : Dumping) (taken : Taken) (p : RunPlan) (program : Program) (o : Option ThreadLine) → IsOver (taken_answer d taken p program o)
answer_over d taken p program None = tt
answer_over d taken p program (Some thread) = tt

some_answer : (taken : Taken) (d : Dumping) (p : RunPlan) (program : Program) → SomeAnswer (IsAnswerBy d taken p program)
some_answer taken d p program = record {
  answer = taken_answer d taken p program (first_without program (threads_of p));
  over = answer_over d taken p program (first_without program (threads_of p));
  holds = refl;
}

pub one_answer : OnePlan → ((text : List ℕ) → ((p : RunPlan) × IsPlanText text p) ⊎ ((line : ℕ) × FirstUnfit text line))
    → (taken : Taken) (d : Dumping) (paths : List Word) (text : List ℕ) → HasOneAnswer paths (λ read. AnswersBy taken d paths (text ∷ read))
one_answer laws each taken d paths text =
    one_answer_by (IsAnswerBy d taken) (some_answer taken d) laws each (λ p program a b is is'. is ∙ sym is') d.plan paths text

pub by_taken : (taken : Taken) (d : Dumping) (paths : List Word) (texts : List (List ℕ)) (answer : Answer) → DumpedAnswers taken d paths texts answer
    → AnswersBy taken d paths texts answer
by_taken taken d paths [] answer is = absurd is
by_taken taken d paths (text ∷ files) answer (inr refused) = inr refused
by_taken taken d paths (text ∷ files) answer (inl (p, plan, inr refused)) = inl (p, plan, inr refused)
by_taken taken d paths (text ∷ files) answer (inl (p, plan, inl (program, linked, made))) = inl (p, plan, inl (program, linked, made.by_taken))

-- ---- a thread without a method to begin with

pub lacking : (d : Dumping) (p : RunPlan) (program : Program) (line : ℕ) → Some line ≡ option_map line_of (first_without program (threads_of p))
    → IsDumpedAnswer no_dumps d p program (refusing d.plan (fault.NoEntry line))
lacking d p program line named = by (first_without program (threads_of p)) refl named
  where
    by : (o : Option ThreadLine) → first_without program (threads_of p) ≡ o → Some line ≡ option_map line_of o
        → IsDumpedAnswer no_dumps d p program (refusing d.plan (fault.NoEntry line))
    by None is same = absurd cc
    by (Some thread) is same =
        let lines : line ≡ thread.line = cc in
        record {
          is_taken = λ none. let no : ⊥ = cc (is, none) in absurd no;
          by_taken = ap (λ (n : ℕ). refusing d.plan (fault.NoEntry n)) lines ∙ ap (taken_answer d no_dumps p program) (sym is);
        }
