-- The answer of `run` is one.
use Rattle.std.proofs.Common.{◌≡◌, ℕ, List, [], ◌∷◌, Option, Some, slice_get, sym, ◌∙◌, ap, subst}
use Rattle.jc_programs.specs.declared.program.Program.{Program}
use Rattle.jc_programs.specs.declared.program.ProbeInit.{ProbeInit}
use Rattle.jc_programs.specs.declared.run_plan.RunPlan.{RunPlan}
use Rattle.jc_run_plans.specs.Plans.{IsPlanText, FirstUnfit}
use Rattle.jc_link_programs.specs.declared.link_refusal.LinkRefusal.{LinkRefusal}
use Rattle.jc_link_programs.specs.declared.link_refusal.LinkRefusal.TheVariants as refusals
use Rattle.jc_link_programs.specs.Linking.{HasId, HasName, IsLinkedClass}
use Rattle.jc_link_programs.proofs.OneRefusalLaws.{one_refusal, program_or_refusal, same_program}
use Rattle.jc_link_programs.proofs.SameLinkedLaws.{same_linked}
use Rattle.jc_command_work.specs.declared.status.Fault.TheVariants as fault
use Rattle.jc_command_work.specs.Step.{Word}
use Rattle.jc_command_work.specs.Part.{End, refused}
use Rattle.jc_command_work.specs.Answered.{Answer, refusal_of}
use Rattle.jc_command_run.specs.PairTexts.{same_name_text, same_id_text}
use Rattle.jc_command_run.specs.RunAnswers.{path_at, IsPlanEnd, IsRunProgram, EndsAs, IsLinkEnd, IsRunAnswer, DecidedBy, RunsFiles, RunAnswers}
use Rattle.jc_command_run.proofs.ChoiceLaws.{IsOneChoice, one_choice}
use Rattle.jc_command_run.proofs.StoreLaws.{same_frameless}

-- ---- run plans

-- a text is one run plan at most, or has one first line that doesn't fit
pub record OnePlan : Type 0 where
  pub apart : (text : List ℕ) (plan : RunPlan) (line : ℕ) → IsPlanText text plan → FirstUnfit text line → ⊥
  pub one_plan : (text : List ℕ) (p q : RunPlan) → IsPlanText text p → IsPlanText text q → p ≡ q
  pub one_line : (text : List ℕ) (m n : ℕ) → FirstUnfit text m → FirstUnfit text n → m ≡ n

one_plan_choice : OnePlan → (plan : Word) (text : List ℕ) → IsOneChoice (IsPlanText text) (IsPlanEnd plan text)
one_plan_choice laws plan text = record {
  one = λ p q is is'. laws.one_plan text p q is is';
  one_end = λ e f ends ends'. ends.2 ∙ ap (λ (n : ℕ). refusal_of plan (fault.Plan n)) (laws.one_line text ends.0 ends'.0 ends.1 ends'.1) ∙ sym ends'.2;
  apart = λ p e is ends. laws.apart text p ends.0 is ends.1;
}

-- ---- programs

some_is : {X : Type 0} (x y : X) (o : Option X) → o ≡ Some x → o ≡ Some y → x ≡ y
some_is x y o p q = cc

pub one_name : (files : List (List ℕ)) (index : ℕ) (a b : List ℕ) → HasName files index a → HasName files index b → a ≡ b
one_name files index a b p q =
    let bytes = some_is p.bytes q.bytes (slice_get files index) p.stands q.stands in
    let same = same_linked p.names q.names q.bytes p.linked q.linked (subst (λ (t : List ℕ). IsLinkedClass p.names t p.linked) bytes p.is) q.is in
    p.named ∙ sym same.name ∙ sym q.named

pub one_id : (files : List (List ℕ)) (index a b : ℕ) → HasId files index a → HasId files index b → a ≡ b
one_id files index a b p q =
    let bytes = some_is p.bytes q.bytes (slice_get files index) p.stands q.stands in
    let same = same_linked p.names q.names q.bytes p.linked q.linked (subst (λ (t : List ℕ). IsLinkedClass p.names t p.linked) bytes p.is) q.is in
    let init : p.init ≡ q.init = some_is p.init q.init q.linked.probes (same.probes ∙ p.probes) q.probes in
    p.id_is ∙ ap (λ (i : ProbeInit). i.id) init ∙ sym q.id_is

one_ends_as : (paths : List Word) (files : List (List ℕ)) (r : LinkRefusal) (e f : End) → EndsAs paths files r e → EndsAs paths files r f → e ≡ f
one_ends_as paths files (refusals.Class index why) e f p q = p ∙ sym q
one_ends_as paths files (refusals.SameName first second) e f p q =
    p.2 ∙ ap (λ (n : List ℕ). refused (fault.SameName first second) (same_name_text (path_at paths first) (path_at paths second) n)) (one_name files first p.0 q.0 p.1 q.1) ∙ sym q.2
one_ends_as paths files (refusals.SameId first second) e f p q =
    p.2 ∙ ap (λ (n : ℕ). refused (fault.SameId first second) (same_id_text (path_at paths first) (path_at paths second) n)) (one_id files first p.0 q.0 p.1 q.1) ∙ sym q.2

pub one_link_choice : (paths : List Word) (files : List (List ℕ)) → IsOneChoice (IsRunProgram files) (IsLinkEnd paths files)
one_link_choice paths files = record {
  one = λ x y is is'. is.2 ∙ same_frameless is.0 is'.0 (same_program files is.0 is'.0 is.1 is'.1) ∙ sym is'.2;
  one_end = λ e f ends ends'. one_ends_as paths files ends'.0 e f (subst (λ (r : LinkRefusal). EndsAs paths files r e) (one_refusal files ends.0 ends'.0 ends.1 ends'.1) ends.2) ends'.2;
  apart = λ x e is ends. program_or_refusal files is.0 ends.0 is.1 ends.1;
}

-- ---- the whole

abbrev pub AtMostOne : (Answer → Type 0) → Type 0
AtMostOne Is = (a b : Answer) → Is a → Is b → a ≡ b

-- one thing at most is made of each run plan and each program
abbrev pub IsOneMade : (RunPlan → Program → Answer → Type 0) → Type 0
IsOneMade Makes = (p : RunPlan) (program : Program) → AtMostOne (Makes p program)

-- where one thing is made of a run plan and a program, there is one answer
pub one_decided : OnePlan → (Makes : RunPlan → Program → Answer → Type 0) → IsOneMade Makes
    → (plan : Word) (paths : List Word) (text : List ℕ) (files : List (List ℕ)) → AtMostOne (DecidedBy Makes plan paths text files)
one_decided laws Makes one plan paths text files =
    one_choice (IsPlanText text) (IsPlanEnd plan text) _ (one_plan_choice laws plan text)
    (λ p. one_choice (IsRunProgram files) (IsLinkEnd paths files) _ (one_link_choice paths files) (one p))

pub one_run : OnePlan → (plan exec : Word) (paths : List Word) (text : List ℕ) (files : List (List ℕ)) (a b : Answer)
    → RunsFiles plan exec paths text files a → RunsFiles plan exec paths text files b → a ≡ b
one_run laws plan exec paths text files = one_decided laws (IsRunAnswer plan exec) (λ p program a b is is'. is ∙ sym is') plan paths text files

pub one_run_answer : OnePlan → (plan exec : Word) (paths : List Word) (texts : List (List ℕ)) (a b : Answer) → RunAnswers plan exec paths texts a → RunAnswers plan exec paths texts b → a ≡ b
one_run_answer laws plan exec paths [] a b is is' = absurd is
one_run_answer laws plan exec paths (text ∷ files) a b is is' = one_run laws plan exec paths text files a b is is'
