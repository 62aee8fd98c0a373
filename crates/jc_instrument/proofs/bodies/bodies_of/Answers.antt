use Rattle.std.proofs.Common.{sym, ◌∙◌}
use Rattle.jc_instrument.specs.Causes.{NoCause}
use Rattle.jc_instrument.specs.Reasons.{analysis_causes}
use Rattle.jc_instrument.specs.Steps.{AreCheckedBodies}
use Rattle.jc_instrument.proofs.AnswerLaws.{ok_more}
use Rattle.jc_instrument.proofs.WholeLaws.{no_cause_checked}
use Rattle.jc_instrument.proofs.bodies.bodies_of.Goals as goal

pub returns-clause-no_cause : goal.returns-clause-no_cause
returns-clause-no_cause c =
    let class = c.args.class.now in
    ok_more (AreCheckedBodies class) (λ _. NoCause (analysis_causes class)) c.checked_bodies.result
    (λ bodies are. no_cause_checked class bodies (sym c.is_left_alone.ensures ∙ c.if-is_left_alone.false) c.in_default.ensures
    c.in_default-interface_refusal.ensures are) c.checked_bodies.ensures.bodies
