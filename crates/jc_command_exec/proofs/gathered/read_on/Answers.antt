use Rattle.std.proofs.lemmas.Result.{err_from_is_err_and}
use Rattle.jc_command_exec.proofs.GatheredLaws.{joins}
use Rattle.jc_command_exec.proofs.gathered.read_on.Goals as goal

pub returns-in_err-feeding : goal.returns-in_err-feeding
returns-in_err-feeding g c =
    let p = err_from_is_err_and c.from_residual.result c.from_residual.ensures.1 in
    let d = c.in_err-feeding.ensures in
    rw (p.1, p.2) (d.0, d.1, tt)

pub returns : goal.returns
returns g c =
    let d = c.in_ok-feeding.ensures in
    (d.0, d.1, joins c.args.gathered c.begin.result c.in_ok-feeding.feeding d.0 c.args.index c.args.path c.end.result c.begin.ensures d.2 c.end.ensures)
