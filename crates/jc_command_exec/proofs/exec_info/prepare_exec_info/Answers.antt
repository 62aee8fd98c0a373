use Rattle.std.proofs.lemmas.Result.{err_from_is_err_and}
use Rattle.jc_command_work.specs.Seen.{texts_of, stop_seen}
use Rattle.jc_command_work.proofs.AnsweredLaws.{unprepared}
use Rattle.jc_command_exec.specs.ExecInfo.{InfoAnswers}
use Rattle.jc_command_exec.proofs.InfoLaws.{lists}
use Rattle.jc_command_exec.proofs.exec_info.prepare_exec_info.Goals as goal

pub returns-in_err-listed : goal.returns-in_err-listed
returns-in_err-listed g c out err outs errs =
    let p = err_from_is_err_and c.from_residual.result c.from_residual.ensures.1 in
    let paths = texts_of c.args.paths.now in
    rw (p.1, p.2) (unprepared g.F.Files.landed paths (InfoAnswers paths) _ _ _ _ (stop_seen c.in_err-listed.field-0.0) (c.in_err-listed.ensures.1 out err outs errs))

pub returns : goal.returns
returns g c out err outs errs =
    let paths = texts_of c.args.paths.now in
    let d = c.in_ok-listed.ensures in
    lists g.F.Files.landed paths (InfoAnswers paths) _ _ _ _ d.0 c.answer_of.result (d.1 out err outs errs) (c.answer_of.ensures paths d.0 d.2)
