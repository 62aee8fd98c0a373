use Rattle.std.proofs.Common.{List, length, sym, subst}
use Rattle.std.specs.Prelude.{All}
use Rattle.std.proofs.lemmas.Result.{err_from_is_err_and}
use Rattle.jc_methods.specs.VerificationTypes.{AreNumberedFrames}
use Rattle.jc_methods.specs.declared.body.Body.{Body}
use Rattle.jc_bytes.specs.Failing.{Said}
use Rattle.jc_kinds.specs.Checked.{Checked}
use Rattle.jc_instrument.specs.Causes.{IsFirstCause}
use Rattle.jc_instrument.specs.Reasons.{code_causes}
use Rattle.jc_instrument.specs.Steps.{HasStates, IsFrameRefusal}
use Rattle.jc_instrument.proofs.AnswerLaws.{said_more}
use Rattle.jc_instrument.proofs.WholeLaws.{bodies_numbered, check_refused, checked_under}
use Rattle.jc_instrument.proofs.bodies.bodies_under.Goals as goal

pub check_bodies-requires-clause-frames : goal.check_bodies-requires-clause-frames
check_bodies-requires-clause-frames c =
    let names = c.read_bodies.new.names in
    subst (All (λ (b : Body). AreNumberedFrames (length names) b.frames)) (sym c.deref.ensures) (bodies_numbered names c.args.class.now c.in_ok-bodies.bodies c.in_ok-bodies.ensures.bodies)

pub returns-in_err-check_bodies-clause-refused : goal.returns-in_err-check_bodies-clause-refused
returns-in_err-check_bodies-clause-refused c =
    let p = err_from_is_err_and c.from_residual-in_err-check_bodies.result c.from_residual-in_err-check_bodies.ensures.1 in
    let class = c.args.class.now in
    let names = c.check_bodies.new.names in
    let bodies = c.in_ok-bodies.bodies in
    let e = c.in_err-check_bodies.field-0.0 in
    let said = subst (λ (l : List Body). Said e (IsFrameRefusal names l)) c.deref.ensures c.in_err-check_bodies.ensures.refused in
    rw (p.1, p.2) (said_more (IsFrameRefusal names bodies) (IsFirstCause (code_causes class)) e
    (λ r refusal. check_refused c.read_bodies.new.names names class bodies r c.in_err-check_bodies.ensures.grows c.in_ok-bodies.ensures.bodies refusal) said)

pub returns-clause-bodies : goal.returns-clause-bodies
returns-clause-bodies c =
    let names = c.check_bodies.new.names in
    checked_under c.read_bodies.new.names names c.args.class.now c.in_ok-bodies.bodies c.in_ok-check_bodies.ensures.grows c.in_ok-bodies.ensures.bodies
    (subst (All (Checked names)) c.deref.ensures c.in_ok-check_bodies.ensures.checked)

pub returns-clause-states : goal.returns-clause-states
returns-clause-states c = λ numbers. subst (All (HasStates c.check_bodies.new.names)) c.deref.ensures (c.in_ok-check_bodies.ensures.states numbers)
