-- What the answer to a text says.
use Rattle.std.proofs.Common.{◌≡◌, ◌⊎◌, inl, inr, ℕ, List, Result, Ok, Err, IfOk, IfErr, MatchResult, refl}
use Rattle.jc_bytes.specs.declared.fail.Fail.{Fail}
use Rattle.jc_bytes.specs.declared.fail.Fail.TheVariants as fails
use Rattle.jc_bytes.specs.Failing.{Said}
use Rattle.jc_programs.specs.Turns.{IsRunPlan}
use Rattle.jc_programs.specs.declared.run_plan.RunPlan.{RunPlan}
use Rattle.jc_run_plans.specs.declared.plan_refusal.PlanRefusal.{PlanRefusal}
use Rattle.jc_run_plans.specs.PlanWords.{numbered_lines}
use Rattle.jc_run_plans.specs.Plans.{IsPlanText, FirstUnfit}
use Rattle.jc_run_plans.specs.PlanReading.{IsRead, plan_read}
use Rattle.jc_run_plans.proofs.PlanLaws.{plans_are_read, unfit_lines_are_found, no_unfit_plan, one_plan, one_first_unfit}
use Rattle.jc_run_plans.proofs.PlanLineLaws.{plan_fits}

pub answer_is_plan : (text : List ℕ) (r : Result RunPlan (Fail PlanRefusal)) → IsRead r (plan_read text) → IfOk r (IsPlanText text)
answer_is_plan text (Ok plan) e = plans_are_read text plan e
answer_is_plan text (Err e) h = tt

pub answer_fits : (text : List ℕ) (r : Result RunPlan (Fail PlanRefusal)) → IsRead r (plan_read text) → IfOk r IsRunPlan
answer_fits text (Ok plan) e = plan_fits (numbered_lines text) plan (plans_are_read text plan e)
answer_fits text (Err e) h = tt

pub answer_refuses : (text : List ℕ) (r : Result RunPlan (Fail PlanRefusal)) → IsRead r (plan_read text) → IfErr r (λ e. Said e (λ x. FirstUnfit text x.line))
answer_refuses text (Ok plan) e = tt
answer_refuses text (Err fails.Memory) h = tt
answer_refuses text (Err (fails.Said refusal)) h = unfit_lines_are_found text refusal.line h

pub plan_is_answered : (text : List ℕ) (r : Result RunPlan (Fail PlanRefusal)) → IsRead r (plan_read text) → (p : RunPlan) → IsPlanText text p → MatchResult r (λ q. q ≡ p) (λ e. e ≡ fails.Memory)
plan_is_answered text (Ok plan) e p h = one_plan (numbered_lines text) plan p (plans_are_read text plan e) h
plan_is_answered text (Err fails.Memory) e p h = refl
plan_is_answered text (Err (fails.Said refusal)) e p h = absurd (no_unfit_plan text p refusal.line h (unfit_lines_are_found text refusal.line e))

pub line_is_answered : (text : List ℕ) (r : Result RunPlan (Fail PlanRefusal)) → IsRead r (plan_read text) → (line : ℕ) → FirstUnfit text line
    → MatchResult r (λ _. ⊥) (λ e. (e ≡ fails.Memory) ⊎ Said e (λ x. x.line ≡ line))
line_is_answered text (Ok plan) e line h = no_unfit_plan text plan line (plans_are_read text plan e) h
line_is_answered text (Err fails.Memory) e line h = inl refl
line_is_answered text (Err (fails.Said refusal)) e line h = inr (one_first_unfit text refusal.line line (unfit_lines_are_found text refusal.line e) h)
