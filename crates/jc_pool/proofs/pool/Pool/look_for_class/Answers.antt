use Rattle.std.proofs.Common.{◌≤◌, length, None, refl, arith}
use Rattle.jc_pool.specs.declared.index.Naming.TheVariants as naming
use Rattle.jc_pool.specs.Lookup.{class_name_of}
use Rattle.jc_pool.proofs.FirstPlaceLaws.{is_nowhere}
use Rattle.jc_pool.proofs.KeyPlaceLaws.{naming_past}
use Rattle.jc_pool.proofs.pool.Pool.look_for_class.Goals as goal

pub returns-clause-none : goal.returns-clause-none
returns-clause-none c =
    let pool = c.args.self.now in
    let whole : length pool ≤ c.finding.place = omega arith in
    is_nowhere (class_name_of pool) c.finding.place c.args.name.now None (λ q past. naming_past naming.Class pool q (omega (arith, whole, past))) refl c.finding.invariant
