use Rattle.std.proofs.Common.{inl, inr, refl, sym, ◌∙◌, subst}
use Rattle.jc_bytes.specs.Failing.{Said}
use Rattle.jc_bytes.specs.declared.fail.Fail.{Fail}
use Rattle.jc_bytes.specs.declared.refusal.Refusal.{Refusal}
use Rattle.jc_kinds.specs.Answers.{IsKindRefusal}
use Rattle.jc_instrument.specs.Found.{AreFramesFine}
use Rattle.jc_instrument.specs.declared.found.FrameRefusals.{FrameRefusals}
use Rattle.jc_instrument.proofs.CheckingLaws.{not_fine, some_is_none}
use Rattle.jc_instrument.proofs.checks.check_next.Goals as goal

pub returns-in-Some-clause-first : goal.returns-in-Some-clause-first
returns-in-Some-clause-first c = inl (c.in-Some.field-0, c.in-Some.is, refl)

pub returns-in-Some-clause-states : goal.returns-in-Some-clause-states
returns-in-Some-clause-states c = λ numbers fine. absurd (some_is_none c.in-Some.field-0 (sym c.in-Some.is ∙ fine.0))

pub returns-in-Ok-clause-first : goal.returns-in-Ok-clause-first
returns-in-Ok-clause-first c = inr (inl (c.in-Ok.ensures.passes, refl))

pub returns-in-Ok-clause-states : goal.returns-in-Ok-clause-states
returns-in-Ok-clause-states c = λ numbers fine. c.in-Ok.ensures.states numbers

pub returns-in-Err-Said-clause-first : goal.returns-in-Err-Said-clause-first
returns-in-Err-Said-clause-first c =
    let w = c.in-Err-Said in
    let is = subst (λ (e : Fail Refusal). Said e (IsKindRefusal c.check_one.new.names c.args.body.now)) w.field-0-is w.ensures.refused in
    inr (inr (w.refusal, is, c.noted.ensures))

pub returns-in-Err-Said-clause-states : goal.returns-in-Err-Said-clause-states
returns-in-Err-Said-clause-states c = λ numbers fine.
    let w = c.in-Err-Said in
    absurd (not_fine w.refusal.kind w.refusal c.args.first (subst (λ (f : FrameRefusals). AreFramesFine f) c.noted.ensures fine))
