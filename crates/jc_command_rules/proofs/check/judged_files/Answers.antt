use Rattle.std.proofs.Common.{ℕ, length, ◌<◌, ◌∙◌, ap, arith}
use Rattle.std.proofs.lemmas.Result.{err_from_is_err_and}
use Rattle.jc_command_classes.specs.ReportSteps.{data_records, data_path}
use Rattle.jc_command_rules.specs.CheckAnswers.{totals_by}
use Rattle.jc_command_rules.proofs.JudgingLaws.{check_made}
use Rattle.jc_command_rules.proofs.check.judged_files.Goals as goal

pub totals_by-requires : goal.totals_by-requires
totals_by-requires g c = omega (arith, ap length c.deref.ensures.value, c.in_ok-kept.ensures.few, c.requires)

pub returns-in_err-kept : goal.returns-in_err-kept
returns-in_err-kept g c =
    let p = err_from_is_err_and c.from_residual.result c.from_residual.ensures.1 in
    rw (p.1, p.2) c.in_err-kept.ensures.clash

pub returns : goal.returns
returns g c =
    check_made c.args.rules.now (data_records c.args.exec_data) (data_path c.args.exec_data) c.args.inputs.now.paths c.args.inputs.now.texts c.in_ok-kept.kept
    c.in_ok-totals.totals c.in_ok-judged.field-0 c.in_ok-kept.ensures.all (c.in_ok-totals.ensures ∙ ap totals_by c.deref.ensures.value) c.in_ok-judged.ensures
