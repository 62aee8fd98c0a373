use Rattle.jc_exec.specs.declared.waiting.State.TheVariants as states
use Rattle.jc_exec.proofs.FinishLaws.{seen, stays_refused}
use Rattle.jc_exec.proofs.waiting.fed.Goals as goal

pub returns-in-Refused-clause-stands : goal.returns-in-Refused-clause-stands
returns-in-Refused-clause-stands g c = λ before bytes f.
    let held = g.T.Table.held in
    let why = c.in-Refused.refusal in
    stays_refused c.args.count why c.args.piece.now before bytes (seen held c.args.count c.args.state (states.Refused why) c.in-Refused.is before bytes f)
