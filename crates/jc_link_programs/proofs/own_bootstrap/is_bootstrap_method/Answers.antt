use Rattle.jc_pool.specs.Lookup.{member}
use Rattle.jc_link_programs.proofs.OwnBootstrapLaws.{method_told, no_method}
use Rattle.std.proofs.Common.{refl}
use Rattle.jc_link_programs.proofs.own_bootstrap.is_bootstrap_method.Goals as goal

pub returns-in-Ok : goal.returns-in-Ok
returns-in-Ok c = method_told c.args.pool.now c.args.place c.args.class.now (member c.in-Ok.member) c.is_method.result c.in-Ok.ensures.texts c.is_method.ensures

pub returns-in-Err : goal.returns-in-Err
returns-in-Err c = no_method c.args.pool.now c.args.place c.args.class.now (c.in-Err.ensures.bad.0 refl)
