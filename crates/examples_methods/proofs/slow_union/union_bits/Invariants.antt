use Rattle.std.proofs.Common.{◌≡◌}
use Rattle.examples_methods.specs.SlowUnion.{all_hits}
use Rattle.examples_methods.proofs.slow_union.union_bits.Given as goal

-- the bits so far
abbrev pub invariant-looking : goal.invariant-looking
invariant-looking l = l.bits.items ≡ all_hits l.fn.records l.id l.index
