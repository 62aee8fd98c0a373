use Rattle.std.proofs.Common.{[]}
use Rattle.std.proofs.lemmas.Result.{err_from_is_err_and}
use Rattle.jc_command_work.proofs.AnsweredLaws.{none_made}
use Rattle.jc_command_exec.proofs.InfoLaws.{informs}
use Rattle.jc_command_exec.proofs.exec_info.inform.Goals as goal

pub returns-in_err-before : goal.returns-in_err-before
returns-in_err-before g c =
    let p = err_from_is_err_and c.from_residual.result c.from_residual.ensures.1 in
    rw (p.1, p.2) ([], (λ out err outs errs. none_made g.F.Files.landed _ _ _), tt)

pub returns-in_err-gathered : goal.returns-in_err-gathered
returns-in_err-gathered g c =
    let p = err_from_is_err_and c.from_residual-in_err-gathered.result c.from_residual-in_err-gathered.ensures.1 in
    let d = c.in_err-gathered.ensures in
    rw (p.1, p.2) (d.0, d.1, tt)

pub returns : goal.returns
returns g c =
    let d = c.in_ok-gathered.ensures in (
      d.0,
      d.1,
      informs c.args.listed.refused c.alone.result c.in_ok-gathered.gathered d.0 c.args.index c.args.path c.args.listed.listing c.in_ok-before.before
          c.put_next.result c.in_ok-before.ensures c.alone.ensures d.2 c.put_next.ensures,
    )
