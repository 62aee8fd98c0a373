use Rattle.std.proofs.lemmas.Result.{err_from_is_err_and}
use Rattle.jc_command_work.specs.Seen.{stop_seen}
use Rattle.jc_command_work.proofs.AnsweredLaws.{none_made, read_of}
use Rattle.jc_command_work.proofs.input_files.read_listed.Goals as goal

pub returns-in_err-named-clause-does : goal.returns-in_err-named-clause-does
returns-in_err-named-clause-does g c out err outs errs =
    let p = err_from_is_err_and c.from_residual.result c.from_residual.ensures.1 in
    rw (p.1, p.2) (none_made g.F.Files.landed _ _ _)

pub returns-clause-does : goal.returns-clause-does
returns-clause-does g c out err outs errs =
    read_of g.F.Files.landed (λ inputs. inputs.texts) stop_seen _ _ (c.in_ok-named.ensures) _ _ _ _ c.read_at.result (c.read_at.ensures.does out err outs errs)
