use Rattle.std.proofs.Common.{arith}
use Rattle.std.proofs.lemmas.List.FromFn.{fill_by_all}
use Rattle.jc_class.specs.ClassId.{after_bits}
use Rattle.jc_class.proofs.id.remainders.Goals as goal

pub returns : goal.returns
returns c = fill_by_all (after_bits 8) c.loop-byte.table 256 0 c.loop-byte.invariant.0 (λ k h. c.loop-byte.invariant.1 k (omega (arith, h)))
