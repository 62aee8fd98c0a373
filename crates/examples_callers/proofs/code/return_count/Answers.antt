use Rattle.std.proofs.lemmas.Result.{err_from_is_err_and}
use Rattle.examples_callers.proofs.code.return_count.Goals as goal

pub returns-in_err-decoded-clause-count : goal.returns-in_err-decoded-clause-count
returns-in_err-decoded-clause-count c = λ code starts spelled.
    let p = err_from_is_err_and c.from_residual.result c.from_residual.ensures.1 in
    rw (p.1, p.2) (c.in_err-decoded.ensures.only code starts spelled)

pub returns-clause-count : goal.returns-clause-count
returns-clause-count c = λ code starts spelled. let same = (c.in_ok-decoded.ensures.only code starts spelled).0 in cc
