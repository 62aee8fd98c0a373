use Rattle.std.proofs.Common.{◌∙◌, ap}
use Rattle.std.proofs.lemmas.Result.{err_from_is_err_and}
use Rattle.jc_command_classes.specs.Report.{report_text}
use Rattle.jc_command_classes.specs.ReportSteps.{data_records, data_path}
use Rattle.jc_command_classes.proofs.ReportRunLaws.{report_writes}
use Rattle.jc_command_classes.proofs.report.reported.Goals as goal

pub returns-in_err-kept : goal.returns-in_err-kept
returns-in_err-kept g c =
    let p = err_from_is_err_and c.from_residual.result c.from_residual.ensures.1 in
    rw (p.1, p.2) c.in_err-kept.ensures.clash

pub returns : goal.returns
returns g c =
    report_writes c.args.options.now.csv c.args.options.now.name.now (data_records c.args.exec_data) (data_path c.args.exec_data)
    c.args.inputs.now.paths c.args.inputs.now.texts c.in_ok-kept.kept c.in_ok-bytes.bytes c.in_ok-with_file.field-0 c.in_ok-kept.ensures.all
    (c.in_ok-bytes.ensures ∙ ap (report_text c.args.options.now.name.now) c.deref.ensures.value) c.in_ok-with_file.ensures
