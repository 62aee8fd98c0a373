use Rattle.std.proofs.Common.{w32, ap}
use Rattle.std.proofs.lemmas.Int.{to_z_pos}
use Rattle.jc_pool.specs.declared.index.Key.TheVariants as key
use Rattle.jc_pool.proofs.planned.int_key.Goals as goal

pub returns : goal.returns
returns c = ap key.Integer (to_z_pos w32 c.args.value c.requires)
