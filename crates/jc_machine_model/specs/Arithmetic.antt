-- What arithmetic on ints and longs gives (JVM Specification 2.3.1, 2.11.3, 2.11.4, 6.5), in plain arithmetic on whole numbers.
use Rattle.std.specs.Prelude.{◌≡◌, ℕ, ℤ, pos, negsuc, neg_ℤ, unsigned_abs, ◌+◌, ◌*◌, ◌/◌, ◌^◌, ◌<◌, ◌+ℤ◌, ◌-ℤ◌, ◌*ℤ◌, ◌<ℤ◌, ◌≤ℤ◌, List, [], ◌∷◌}
use Rattle.jc_bytes.specs.Descriptor.{Byte, Char, Short, Boolean}
use Rattle.jc_methods.specs.Opcode as opcode
use Rattle.jc_programs.specs.Narrowing.{narrowed}
use Rattle.jc_programs.specs.declared.run_end.Thrown.TheVariants as thrown
use Rattle.jc_machine_model.specs.Values.{Value, int, long}
use Rattle.jc_machine_model.specs.Effects.{gives, raises, effect}

-- ---- ranges

-- a number of so many bits and a sign: from -(2 ^ bits) to 2 ^ bits - 1
abbrev pub FitsBits : ℕ → ℤ → Type 0
FitsBits bits (pos n) = n < 2 ^ bits
FitsBits bits (negsuc n) = n < 2 ^ bits

abbrev pub FitsInt : ℤ → Type 0
FitsInt x = FitsBits 31 x

abbrev pub FitsLong : ℤ → Type 0
FitsLong x = FitsBits 63 x

-- the two are congruent: they differ by a multiple of the modulus
pub record AreCongruent (modulus : ℕ) (x y : ℤ) : Type 0 where
  pub above : ℕ
  pub below : ℕ
  pub same : x +ℤ pos (above * modulus) ≡ y +ℤ pos (below * modulus)

-- what wraps around is left of a number in so many bits and a sign
pub record Wraps (bits : ℕ) (exact result : ℤ) : Type 0 where
  pub fits : FitsBits bits result
  pub same : AreCongruent (2 ^ (bits + 1)) exact result

-- ---- what instructions leave

-- the instruction takes so many operands and leaves an int, of which the fact holds
abbrev pub LeavesInt : (op taken : ℕ) → List Value → (ℤ → Type 0) → Type 0
LeavesInt op taken stack Fact = (z : ℤ) × (effect op stack ≡ gives taken (int z ∷ [])) × Fact z

-- the same with a long
abbrev pub LeavesLong : (op taken : ℕ) → List Value → (ℤ → Type 0) → Type 0
LeavesLong op taken stack Fact = (z : ℤ) × (effect op stack ≡ gives taken (long z ∷ [])) × Fact z

-- ---- sums and products wrap around

pub record IntsWrap (x y : ℤ) (stack : List Value) : Type 0 where
  pub iadd : LeavesInt opcode.iadd 2 (int y ∷ int x ∷ stack) (Wraps 31 (x +ℤ y))
  pub isub : LeavesInt opcode.isub 2 (int y ∷ int x ∷ stack) (Wraps 31 (x -ℤ y))
  pub imul : LeavesInt opcode.imul 2 (int y ∷ int x ∷ stack) (Wraps 31 (x *ℤ y))
  pub ineg : LeavesInt opcode.ineg 1 (int x ∷ stack) (Wraps 31 (neg_ℤ x))

pub record LongsWrap (x y : ℤ) (stack : List Value) : Type 0 where
  pub ladd : LeavesLong opcode.ladd 2 (long y ∷ long x ∷ stack) (Wraps 63 (x +ℤ y))
  pub lsub : LeavesLong opcode.lsub 2 (long y ∷ long x ∷ stack) (Wraps 63 (x -ℤ y))
  pub lmul : LeavesLong opcode.lmul 2 (long y ∷ long x ∷ stack) (Wraps 63 (x *ℤ y))
  pub lneg : LeavesLong opcode.lneg 1 (long x ∷ stack) (Wraps 63 (neg_ℤ x))

-- ---- division rounds towards zero

-- the quotient and the remainder of a division: the remainder is less than the divisor, and has the sign of the dividend
pub record IsDivision (x y quotient remainder : ℤ) : Type 0 where
  pub whole : (quotient *ℤ y) +ℤ remainder ≡ x
  pub less : unsigned_abs remainder < unsigned_abs y
  pub above : pos 0 ≤ℤ x → pos 0 ≤ℤ remainder
  pub below : x ≤ℤ pos 0 → remainder ≤ℤ pos 0

-- the quotient wraps around: it does where the least number is divided by -1
pub record IntsDivide (x y : ℤ) (stack : List Value) : Type 0 where
  pub quotient : ℤ
  pub remainder : ℤ
  pub divides : IsDivision x y quotient remainder
  pub idiv : LeavesInt opcode.idiv 2 (int y ∷ int x ∷ stack) (Wraps 31 quotient)
  pub irem : effect opcode.irem (int y ∷ int x ∷ stack) ≡ gives 2 (int remainder ∷ [])

pub record LongsDivide (x y : ℤ) (stack : List Value) : Type 0 where
  pub quotient : ℤ
  pub remainder : ℤ
  pub divides : IsDivision x y quotient remainder
  pub ldiv : LeavesLong opcode.ldiv 2 (long y ∷ long x ∷ stack) (Wraps 63 quotient)
  pub lrem : effect opcode.lrem (long y ∷ long x ∷ stack) ≡ gives 2 (long remainder ∷ [])

-- a division by zero raises
pub record ByZero (x : ℤ) (stack : List Value) : Type 0 where
  pub idiv : effect opcode.idiv (int (pos 0) ∷ int x ∷ stack) ≡ raises thrown.ArithmeticException
  pub irem : effect opcode.irem (int (pos 0) ∷ int x ∷ stack) ≡ raises thrown.ArithmeticException
  pub ldiv : effect opcode.ldiv (long (pos 0) ∷ long x ∷ stack) ≡ raises thrown.ArithmeticException
  pub lrem : effect opcode.lrem (long (pos 0) ∷ long x ∷ stack) ≡ raises thrown.ArithmeticException

-- the least number divided by -1 is the least number
pub record LeastByMinusOne (stack : List Value) : Type 0 where
  pub idiv : effect opcode.idiv (int (negsuc 0) ∷ int (negsuc 2147483647) ∷ stack) ≡ gives 2 (int (negsuc 2147483647) ∷ [])
  pub ldiv : effect opcode.ldiv (long (negsuc 0) ∷ long (negsuc 9223372036854775807) ∷ stack) ≡ gives 2 (long (negsuc 9223372036854775807) ∷ [])

-- ---- shifts

-- the number is the count's lowest bits, as many as tell apart this many shifts
pub record IsMasked (shifts : ℕ) (count : ℤ) (k : ℕ) : Type 0 where
  pub within : k < shifts
  pub same : AreCongruent shifts count (pos k)

-- the quotient rounded down
pub record RoundsDown (x : ℤ) (divisor : ℕ) (result : ℤ) : Type 0 where
  pub at_most : (result *ℤ pos divisor) ≤ℤ x
  pub close : x <ℤ ((result *ℤ pos divisor) +ℤ pos divisor)

-- the bits of a number with a sign, read as a number without one, are divided, and the quotient is read with a sign again
pub record DividesUnsigned (bits : ℕ) (x : ℤ) (divisor : ℕ) (result : ℤ) : Type 0 where
  pub unsigned : ℕ
  pub within : unsigned < 2 ^ (bits + 1)
  pub same : AreCongruent (2 ^ (bits + 1)) x (pos unsigned)
  pub wraps : Wraps bits (pos (unsigned / divisor)) result

-- x is shifted by the five lowest bits of y
pub record IntsShift (x y : ℤ) (stack : List Value) : Type 0 where
  pub count : ℕ
  pub masked : IsMasked 32 y count
  pub ishl : LeavesInt opcode.ishl 2 (int y ∷ int x ∷ stack) (Wraps 31 (x *ℤ pos (2 ^ count)))
  pub ishr : LeavesInt opcode.ishr 2 (int y ∷ int x ∷ stack) (RoundsDown x (2 ^ count))
  pub iushr : LeavesInt opcode.iushr 2 (int y ∷ int x ∷ stack) (DividesUnsigned 31 x (2 ^ count))

-- x is shifted by the six lowest bits of y
pub record LongsShift (x y : ℤ) (stack : List Value) : Type 0 where
  pub count : ℕ
  pub masked : IsMasked 64 y count
  pub lshl : LeavesLong opcode.lshl 2 (int y ∷ long x ∷ stack) (Wraps 63 (x *ℤ pos (2 ^ count)))
  pub lshr : LeavesLong opcode.lshr 2 (int y ∷ long x ∷ stack) (RoundsDown x (2 ^ count))
  pub lushr : LeavesLong opcode.lushr 2 (int y ∷ long x ∷ stack) (DividesUnsigned 63 x (2 ^ count))

-- ---- comparisons

pub record Compares (x y : ℤ) (stack : List Value) : Type 0 where
  pub less : x <ℤ y → effect opcode.lcmp (long y ∷ long x ∷ stack) ≡ gives 2 (int (negsuc 0) ∷ [])
  pub equal : x ≡ y → effect opcode.lcmp (long y ∷ long x ∷ stack) ≡ gives 2 (int (pos 0) ∷ [])
  pub greater : y <ℤ x → effect opcode.lcmp (long y ∷ long x ∷ stack) ≡ gives 2 (int (pos 1) ∷ [])

-- ---- narrowing

-- what is left of a number in so many bits, without a sign
pub record WrapsUnsigned (bits : ℕ) (exact result : ℤ) : Type 0 where
  pub number : ℕ
  pub is : result ≡ pos number
  pub within : number < 2 ^ bits
  pub same : AreCongruent (2 ^ bits) exact result

-- an int cut to a smaller type, or masked to a boolean
pub record Narrows (x : ℤ) : Type 0 where
  pub boolean : WrapsUnsigned 1 x (narrowed Boolean x)
  pub byte : Wraps 7 x (narrowed Byte x)
  pub char : WrapsUnsigned 16 x (narrowed Char x)
  pub short : Wraps 15 x (narrowed Short x)

-- conversions cut in the same way, and a long is cut to an int
pub record Converts (x y : ℤ) (stack : List Value) : Type 0 where
  pub i2b : LeavesInt opcode.i2b 1 (int x ∷ stack) (Wraps 7 x)
  pub i2c : LeavesInt opcode.i2c 1 (int x ∷ stack) (WrapsUnsigned 16 x)
  pub i2s : LeavesInt opcode.i2s 1 (int x ∷ stack) (Wraps 15 x)
  pub i2l : effect opcode.i2l (int x ∷ stack) ≡ gives 1 (long x ∷ [])
  pub l2i : LeavesInt opcode.l2i 1 (long y ∷ stack) (Wraps 31 y)
