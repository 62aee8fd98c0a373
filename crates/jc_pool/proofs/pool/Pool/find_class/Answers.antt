use Rattle.jc_pool.specs.declared.index.Naming.TheVariants as naming
use Rattle.jc_pool.proofs.KeyPlaceLaws.{first_naming, no_naming}
use Rattle.jc_pool.proofs.pool.Pool.find_class.Goals as goal

pub returns-in-Some-clause-first : goal.returns-in-Some-clause-first
returns-in-Some-clause-first c =
    first_naming naming.Class c.args.self.now c.in-Some.index.now c.args.name.now c.text_place.result c.naming_place.result c.in-Some.ensures c.text_place.ensures c.naming_place.ensures

pub returns-in-Some-clause-none : goal.returns-in-Some-clause-none
returns-in-Some-clause-none c =
    no_naming naming.Class c.args.self.now c.in-Some.index.now c.args.name.now c.text_place.result c.naming_place.result c.in-Some.ensures c.text_place.ensures c.naming_place.ensures
