use Rattle.std.proofs.Common.{◌≡◌, ◌++◌, length}
use Rattle.jc_exec.specs.Writing.{packed}
use Rattle.jc_exec.proofs.bits.put_bits.Given as goal

-- what was written and what is left are all the bytes
abbrev pub invariant-packing : goal.invariant-packing
invariant-packing l = l.out.items ++ packed l.rest ≡ l.fn.out.items ++ packed l.bits

abbrev pub decreases-packing : goal.decreases-packing
decreases-packing l = length l.rest
