-- A run plan's text and class files have an answer.
use Rattle.std.proofs.Common.{◌≡◌, ◌⊎◌, inl, inr, ℕ, List, [], ◌∷◌, Option, None, Some, refl, sym, ◌∙◌}
use Rattle.std.specs.List.{AllByRecursion}
use Rattle.std.specs.Option.{option_map}
use Rattle.std.proofs.lemmas.Option.{none-some}
use Rattle.jc_run_plans.specs.Plans.{IsPlanText, FirstUnfit}
use Rattle.jc_link_laws.specs.TwinFiles.{IsShortFile}
use Rattle.jc_link_laws.proofs.SomeProgramLaws.{program_or_reason}
use Rattle.jc_link_programs.specs.Linking.{IsProgramOf, IsLinkRefusal, refused, one_name, one_id}
use Rattle.jc_link_programs.specs.declared.link_refusal.LinkRefusal.{LinkRefusal}
use Rattle.jc_link_programs.specs.declared.link_refusal.LinkRefusal.TheVariants as refusals
use Rattle.jc_link_programs.proofs.AnswerLaws.{class_at}
use Rattle.jc_programs.specs.declared.program.Program.{Program}
use Rattle.jc_programs.specs.declared.program.ProbeInit.{ProbeInit}
use Rattle.jc_programs.specs.declared.run_plan.RunPlan.{RunPlan}
use Rattle.jc_programs.specs.declared.run_plan.ThreadLine.{ThreadLine}
use Rattle.jc_exec.specs.Store.{Store}
use Rattle.jc_machine_model.specs.CaseText.{case_texts}
use Rattle.jc_machine_laws.specs.Frameless.{frameless}
use Rattle.jc_command_work.specs.declared.status.Fault.TheVariants as fault
use Rattle.jc_command_work.specs.Step.{Word, AreTexts}
use Rattle.jc_command_work.specs.Part.{End, stops}
use Rattle.jc_command_work.specs.Answered.{Answer, HasOneAnswer, refusal_of}
use Rattle.jc_command_work.specs.OneWay.{IsOver}
use Rattle.jc_command_run.specs.RunAnswers.{path_at, EndsAs, answer_with, run_answer, IsRunAnswer, DecidedBy, RunAnswers}
use Rattle.jc_command_run.specs.RunStore.{threads_of, first_without, run_store}
use Rattle.jc_command_run.proofs.RunLaws.{OnePlan, IsOneMade, one_decided}

-- an answer, by which it is over
pub record SomeAnswer (Is : Answer → Type 0) : Type 0 where
  pub answer : Answer
  pub over : IsOver answer
  pub holds : Is answer

-- ---- class files

-- each reason ends the command in some way
pub some_end : (paths : List Word) (files : List (List ℕ)) (r : LinkRefusal) → IsLinkRefusal files r → (end : End) × EndsAs paths files r end
some_end paths files _ (refused {index = i} {refusal = why} first) = (refusal_of (path_at paths i) (fault.Class i why), refl)
some_end paths files _ (one_name {first = a} {second = b} names classes are pair) =
    let there = pair.there in
    let own = class_at names files classes are a there.a there.first_is in
    (_, (there.a.name, record { names = names; bytes = own.0; linked = there.a; stands = own.1; is = own.2; named = refl }, refl))
some_end paths files _ (one_id {first = a} {second = b} names classes are none pair) = by pair.there.a.probes refl pair.there.first_key
  where
    by : (o : Option ProbeInit) → pair.there.a.probes ≡ o → option_map (λ (i : ProbeInit). i.id) o ≡ Some pair.there.shared → (end : End) × EndsAs paths files (refusals.SameId a b) end
    by None is key = absurd (none-some pair.there.shared key)
    by (Some init) is key =
        let own = class_at names files classes are a pair.there.a pair.there.first_is in
        (_, (init.id, record { names = names; bytes = own.0; linked = pair.there.a; init = init; stands = own.1; is = own.2; probes = is; id_is = refl }, refl))

pub short_files : (paths : List Word) (files : List (List ℕ)) → AreTexts paths files → AllByRecursion IsShortFile files
short_files [] [] are = tt
short_files [] (t ∷ ts) are = absurd are
short_files (p ∷ ps) [] are = absurd are
short_files (p ∷ ps) (t ∷ ts) are = ((are.0.are_bytes, are.0.short), short_files ps ts are.1)

-- ---- the whole

module _ (Makes : RunPlan → Program → Answer → Type 0) (some : (p : RunPlan) (program : Program) → SomeAnswer (Makes p program)) where
  module _ (plan : Word) (paths : List Word) (text : List ℕ) (files : List (List ℕ)) where
    of_program : (p : RunPlan) → IsPlanText text p → ((program : Program) × IsProgramOf files program) ⊎ ((r : LinkRefusal) × IsLinkRefusal files r)
        → SomeAnswer (DecidedBy Makes plan paths text files)
    of_program p is (inl (program, of)) =
        let made = some p (frameless program) in
        record { answer = made.answer; over = made.over; holds = inl (p, is, inl (frameless program, (program, of, refl), made.holds)) }
    of_program p is (inr (r, refuses)) =
        let end = some_end paths files r refuses in
        record { answer = stops end.0; over = tt; holds = inl (p, is, inr (end.0, (r, refuses, end.1), refl)) }

    of_plan : ((p : RunPlan) × IsPlanText text p) ⊎ ((line : ℕ) × FirstUnfit text line) → AllByRecursion IsShortFile files
        → SomeAnswer (DecidedBy Makes plan paths text files)
    of_plan (inl (p, is)) short = of_program p is (program_or_reason files short)
    of_plan (inr (line, unfit)) short = record {
      answer = stops (refusal_of plan (fault.Plan line));
      over = tt;
      holds = inr (refusal_of plan (fault.Plan line), (line, unfit, refl), refl);
    }

  -- where one thing is made of each run plan and each program, there is one answer to what is read
  pub one_answer_by : OnePlan → ((text : List ℕ) → ((p : RunPlan) × IsPlanText text p) ⊎ ((line : ℕ) × FirstUnfit text line)) → IsOneMade Makes
      → (plan : Word) (paths : List Word) (text : List ℕ) → HasOneAnswer paths (DecidedBy Makes plan paths text)
  one_answer_by laws each one plan paths text files are =
      let made = of_plan plan paths text files (each text) (short_files paths files are) in
      record {
        answer = made.answer;
        over = made.over;
        holds = made.holds;
        only = λ a is. one_decided laws Makes one plan paths text files a made.answer is made.holds;
      }

pub answer_over : (plan exec : Word) (store : Store) (text : List ℕ) (o : Option ThreadLine) → IsOver (answer_with plan exec store text o)
answer_over plan exec store text None = tt
answer_over plan exec store text (Some thread) = tt

run_answers : (plan exec : Word) (p : RunPlan) (program : Program) → SomeAnswer (IsRunAnswer plan exec p program)
run_answers plan exec p program = record {
  answer = run_answer plan exec p program (first_without program (threads_of p));
  over = answer_over plan exec (run_store program p) (case_texts program 1 p.cases) (first_without program (threads_of p));
  holds = refl;
}

pub one_answer : OnePlan → ((text : List ℕ) → ((p : RunPlan) × IsPlanText text p) ⊎ ((line : ℕ) × FirstUnfit text line))
    → (plan exec : Word) (paths : List Word) (text : List ℕ) → HasOneAnswer paths (λ read. RunAnswers plan exec paths (text ∷ read))
one_answer laws each plan exec paths text =
    one_answer_by (IsRunAnswer plan exec) (run_answers plan exec) laws each (λ p program a b is is'. is ∙ sym is') plan paths text
