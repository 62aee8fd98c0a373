use Rattle.std.proofs.Common.{Some}
use Rattle.jc_instrument.specs.Reasons.{AnalysisReason}
use Rattle.jc_command_classes.specs.ReportSteps.{data_records, data_path, IsCoveredClass}
use Rattle.jc_command_classes.proofs.ReportStepLaws.{looked_class, looked_refused, said_why}
use Rattle.jc_command_classes.proofs.covered_class.look_at.Goals as goal

pub returns-in-Ok-clause-looked : goal.returns-in-Ok-clause-looked
returns-in-Ok-clause-looked c =
    looked_class (data_records c.args.exec_data) (data_path c.args.exec_data) c.args.bytes.now c.in-Ok.class c.in-Ok.ensures.analysed c.seen_class.result
    c.seen_class.ensures.seen c.seen_class.ensures.clash

pub returns-in-Err-Said-clause-looked : goal.returns-in-Err-Said-clause-looked
returns-in-Err-Said-clause-looked c =
    let why = c.in-Err-Said.refusal in
    rw c.in-Err-Said.refusal-is
    (looked_refused (IsCoveredClass (data_records c.args.exec_data)) (data_records c.args.exec_data) c.args.bytes.now why
    (said_why c.in-Err-Said.field-0 why (λ r. AnalysisReason c.args.bytes.now (Some r)) (cc) c.in-Err-Said.ensures.refused))
