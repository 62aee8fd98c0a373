use Rattle.std.proofs.Common.{Some, rules, arith}
use Rattle.std.proofs.lemmas.Grind.{common_steps}
use Rattle.jc_bootstraps.specs.Bootstraps.{HaveBootstraps, bootstrap_bodies}
use Rattle.jc_bootstraps.proofs.BootstrapLaws.{none_told}
use Rattle.jc_bootstraps.proofs.bootstraps.class_bootstraps.Goals as goal

pub returns-in_default-found-clause-none : goal.returns-in_default-found-clause-none
returns-in_default-found-clause-none c =
    none_told (Some 0) (HaveBootstraps (bootstrap_bodies c.args.class.now.pool c.args.class.now.attributes))
    (first_of (search rules, grind (arith, common_steps))) (first_of (search rules, grind (arith, common_steps)))

pub returns-clause-none : goal.returns-clause-none
returns-clause-none c =
    none_told c.bootstrap_count.result (HaveBootstraps (bootstrap_bodies c.args.class.now.pool c.args.class.now.attributes))
    (first_of (search rules, grind (arith, common_steps))) (first_of (search rules, grind (arith, common_steps)))
