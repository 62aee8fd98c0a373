use Rattle.std.proofs.Common.{◌≡◌, ◌++◌}
use Rattle.jc_exec.specs.Writing.{pack}
use Rattle.examples_methods.proofs.slow_union.put_bits.Given as goal

-- the bytes so far
abbrev pub invariant-packing : goal.invariant-packing
invariant-packing l = l.out.items ≡ l.fn.out.items ++ pack l.byte l.bits
