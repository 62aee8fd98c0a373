use Rattle.std.proofs.Common.{◌≡◌, ℕ, ◌<◌, length, get_or}
use Rattle.jc_class.specs.ClassId.{after_bits}
use Rattle.jc_class.proofs.id.remainders.Given as goal

-- the remainders so far
abbrev pub invariant-loop-byte : goal.invariant-loop-byte
invariant-loop-byte l = (length l.table ≡ 256) × ((k : ℕ) → k < l.byte → get_or l.table k 0 ≡ after_bits 8 k)
