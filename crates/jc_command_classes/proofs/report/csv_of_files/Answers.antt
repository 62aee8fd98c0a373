use Rattle.std.proofs.Common.{◌∙◌, ap}
use Rattle.std.proofs.lemmas.Result.{err_from_is_err_and}
use Rattle.jc_command_classes.specs.Report.{report_text}
use Rattle.jc_command_classes.proofs.report.csv_of_files.Goals as goal

pub returns-in_err-kept : goal.returns-in_err-kept
returns-in_err-kept g c =
    let p = err_from_is_err_and c.from_residual.result c.from_residual.ensures.1 in
    rw (p.1, p.2) c.in_err-kept.ensures.clash

pub returns : goal.returns
returns g c =
    let all = c.in_ok-kept.ensures.all in
    (all.0, all.1, all.2, c.in_ok-csv_of.ensures ∙ ap (report_text c.args.name.now) (c.deref.ensures.value ∙ all.3.made))
