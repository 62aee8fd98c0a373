use Rattle.std.proofs.Common.{◌≡◌, take}
use Rattle.jc_exec.specs.Packed.{joined_bytes}
use Rattle.jc_exec.proofs.bits.join_bytes.Given as goal

-- the bytes so far
abbrev pub invariant-joining : goal.invariant-joining
invariant-joining l = l.bytes ≡ joined_bytes l.fn.bytes (take l.k l.others)
