use Rattle.std.proofs.Common.{ℕ, List, Some, subst}
use Rattle.jc_bytes.specs.Failing.{Said}
use Rattle.jc_instrument.specs.InstrumentedFile.{IsInstrumentedFile}
use Rattle.jc_instrument.specs.Refused.{Reason}
use Rattle.jc_command_classes.proofs.ReportStepLaws.{said_why}
use Rattle.jc_command_classes.proofs.instrument.decide.Goals as goal

pub returns-in-Ok : goal.returns-in-Ok
returns-in-Ok c = subst (λ (b : List ℕ). IsInstrumentedFile b c.in-Ok.class) c.deref.ensures c.in-Ok.ensures.made

pub returns-in-Err-Said : goal.returns-in-Err-Said
returns-in-Err-Said c =
    let fail = c.in-Err-Said.field-0 in
    let why = c.in-Err-Said.refusal in
    let said = subst (λ (b : List ℕ). Said fail (λ r. Reason b (Some r))) c.deref.ensures c.in-Err-Said.ensures.refused in
    said_why fail why (λ r. Reason c.args.bytes.now (Some r)) (cc) said
