use Rattle.std.proofs.Common.{◌≡◌, length, sym, ◌∙◌, subst}
use Rattle.std.proofs.lemmas.Result.{IfOk-weaker}
use Rattle.jc_methods.specs.VerificationTypes.{AreNumberedFrames}
use Rattle.jc_methods.specs.declared.body.Body.{Body}
use Rattle.jc_methods.proofs.NumberedLaws.{frames_numbered, grown_count}
use Rattle.jc_kinds.specs.Checked.{Checked}
use Rattle.jc_instrument.specs.Ready.{TakesProbes}
use Rattle.jc_instrument.proofs.PlannedLaws.{check_grown}
use Rattle.jc_instrument.proofs.again.read_again.Goals as goal

pub body_again-requires-clause-there : goal.body_again-requires-clause-there
body_again-requires-clause-there c = (c.requires.body, c.requires.is)

pub ready_again-requires-clause-takes : goal.ready_again-requires-clause-takes
ready_again-requires-clause-takes c =
    subst (λ (x : Body). TakesProbes c.args.constants.now x c.args.unread.first) (sym (c.in_ok-body.ensures.body c.requires.body c.requires.is)) c.requires.takes

pub ready_again-requires-clause-frames : goal.ready_again-requires-clause-frames
ready_again-requires-clause-frames c =
    let names = c.body_again.new.names in
    let b = c.requires.body in
    subst (λ (x : Body). AreNumberedFrames (length names) x.frames) (sym (c.in_ok-body.ensures.body b c.requires.is))
    (frames_numbered (length c.args.names.now) (length names) b.frames (grown_count c.args.names.now names c.in_ok-body.ensures.names)
    c.requires.is.is.parts.numbers)

pub ready_again-requires-clause-checked : goal.ready_again-requires-clause-checked
ready_again-requires-clause-checked c =
    let names = c.body_again.new.names in
    let b = c.requires.body in
    subst (Checked names) (sym (c.in_ok-body.ensures.body b c.requires.is))
    (check_grown c.args.names.now names b c.in_ok-body.ensures.names c.requires.is.is.parts.numbers c.requires.checked)

pub returns-clause-body : goal.returns-clause-body
returns-clause-body c = λ b is. IfOk-weaker c.ready_again.result _ (λ r. r.body ≡ b) (λ r e. e ∙ c.in_ok-body.ensures.body b is) c.ready_again.ensures.body
