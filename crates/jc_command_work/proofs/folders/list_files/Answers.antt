use Rattle.std.proofs.Common.{None, map, refl}
use Rattle.std.proofs.lemmas.Result.{err_from_is_err_and}
use Rattle.jc_paths.specs.Looks.{file_view}
use Rattle.jc_command_work.specs.Seen.{words_of, stop_seen}
use Rattle.jc_command_work.proofs.FolderLaws.{files_listed, files_failed, files_lost}
use Rattle.jc_command_work.proofs.folders.list_files.Goals as goal

pub returns-in_err-paths-clause-does : goal.returns-in_err-paths-clause-does
returns-in_err-paths-clause-does g c out err outs errs =
    let p = err_from_is_err_and c.from_residual.result c.from_residual.ensures.1 in
    rw (p.1, p.2) (files_failed g.F.Files.landed (map file_view c.args.words.now) _ _ _ _ (stop_seen c.in_err-paths.field-0.0) (c.in_err-paths.ensures out err outs errs))

pub returns-in_err-once-clause-does : goal.returns-in_err-once-clause-does
returns-in_err-once-clause-does g c out err outs errs =
    let p = err_from_is_err_and c.from_residual-in_err-once.result c.from_residual-in_err-once.ensures.1 in
    rw (p.1, p.2) (files_lost g.F.Files.landed (map file_view c.args.words.now) _ _ _ _ (words_of c.in_ok-paths.paths.items) None refl (c.in_ok-paths.ensures out err outs errs))

pub returns-clause-does : goal.returns-clause-does
returns-clause-does g c out err outs errs =
    files_listed g.F.Files.landed (map file_view c.args.words.now) _ _ _ _ (words_of c.in_ok-paths.paths.items) _ c.in_ok-once.ensures.once (c.in_ok-paths.ensures out err outs errs)
