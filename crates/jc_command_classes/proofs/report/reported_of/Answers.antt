use Rattle.std.proofs.lemmas.Result.{err_from_is_err_and}
use Rattle.jc_command_work.specs.Answered.{writes_seen}
use Rattle.jc_command_classes.specs.Report.{IsReport}
use Rattle.jc_command_classes.specs.ReportSteps.{exec_path}
use Rattle.jc_command_classes.proofs.ReportRunLaws.{read_count, data_stops, data_answers}
use Rattle.jc_command_classes.proofs.report.reported_of.Goals as goal

pub returns-in_err-exec_data : goal.returns-in_err-exec_data
returns-in_err-exec_data g c read is =
    let p = err_from_is_err_and c.from_residual.result c.from_residual.ensures.1 in
    let o = c.args.options.now in
    let paths = c.args.inputs.now.paths in
    rw (p.1, p.2)
    (data_stops writes_seen (IsReport o.csv.now o.name.now paths) (exec_path c.args.exec) read c.args.inputs.now.texts (read_count c.args.exec read is)
    c.in_err-exec_data.field-0.0 (c.in_err-exec_data.ensures read is))

pub returns : goal.returns
returns g c read is =
    let o = c.args.options.now in
    let paths = c.args.inputs.now.paths in
    data_answers writes_seen (IsReport o.csv.now o.name.now paths) (exec_path c.args.exec) read c.args.inputs.now.texts (read_count c.args.exec read is)
    c.in_ok-exec_data.exec_data c.as_ref.result c.reported.result (c.in_ok-exec_data.ensures read is) c.as_ref.ensures.value c.reported.ensures
