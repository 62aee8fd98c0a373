-- Numbers of two and of four bytes, the high byte first (JVM Specification 4.1).
use Rattle.std.specs.Prelude.{ℕ, List}
use Rattle.byteorder.specs.Endian.{big_bytes}

-- an unsigned number in two bytes
unfoldable pub short : ℕ → List ℕ
short x = big_bytes 2 x

-- an unsigned number in four bytes
unfoldable pub word : ℕ → List ℕ
word x = big_bytes 4 x
