use Rattle.std.proofs.Common.{rules}
use Rattle.jc_pool.proofs.WritingLaws.{found_small}
use Rattle.jc_pool.proofs.pool.Pool.entry.Goals as goal

pub returns-clause-small : goal.returns-clause-small
returns-clause-small c = found_small c.self.inside.slots.items c.self.invariant.0 c.args.place _ (search rules)
