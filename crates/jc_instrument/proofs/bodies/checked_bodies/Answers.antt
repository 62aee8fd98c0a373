use Rattle.std.proofs.lemmas.Result.{IfOk-weaker}
use Rattle.jc_instrument.specs.Steps.{AreCheckedBodies}
use Rattle.jc_instrument.proofs.bodies.checked_bodies.Goals as goal

pub returns-clause-bodies : goal.returns-clause-bodies
returns-clause-bodies c =
    IfOk-weaker c.bodies_under.result _ (AreCheckedBodies c.args.class.now)
    (λ bodies is. record { names = c.bodies_under.new.names; are = is.are; checked = is.checked })
    c.bodies_under.ensures.bodies
