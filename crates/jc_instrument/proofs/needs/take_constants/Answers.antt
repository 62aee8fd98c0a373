use Rattle.std.proofs.lemmas.Result.{err_from_is_err_and}
use Rattle.jc_instrument.specs.Needed.{constant_needs, integer_needs}
use Rattle.jc_instrument.proofs.TakingLaws.{all_taken, last_refused, refused_before}
use Rattle.jc_instrument.proofs.needs.take_constants.Goals as goal

pub returns-in_err-take_constant-clause-refused : goal.returns-in_err-take_constant-clause-refused
returns-in_err-take_constant-clause-refused c =
    let p = err_from_is_err_and c.from_residual.result c.from_residual.ensures.1 in
    let e = c.in_err-take_constant.field-0.0 in
    rw (p.1, p.2) (refused_before c.args.pool.now (constant_needs c.args.fetch c.args.bootstrap) (integer_needs c.args.count) e c.in_err-take_constant.ensures.refused)

pub returns-clause-ok : goal.returns-clause-ok
returns-clause-ok c =
    all_taken c.args.pool.now c.take_constant.new.pool c.take_integers.new.pool (constant_needs c.args.fetch c.args.bootstrap) (integer_needs c.args.count)
    c.take_integers.result c.in_ok-take_constant.ensures.ok c.take_integers.ensures.ok

pub returns-clause-refused : goal.returns-clause-refused
returns-clause-refused c =
    last_refused c.args.pool.now c.take_constant.new.pool c.take_integers.new.pool (constant_needs c.args.fetch c.args.bootstrap) (integer_needs c.args.count)
    c.take_integers.result c.in_ok-take_constant.ensures.ok c.take_integers.ensures.refused
