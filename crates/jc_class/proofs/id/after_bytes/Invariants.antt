use Rattle.std.proofs.Common.{◌≡◌, take, fold}
use Rattle.jc_class.specs.ClassId.{after_byte}
use Rattle.jc_class.proofs.id.after_bytes.Given as goal

-- the remainder so far
abbrev pub invariant-loop-byte : goal.invariant-loop-byte
invariant-loop-byte l = l.remainder ≡ fold after_byte l.start (take l.byte-index l.bytes)
