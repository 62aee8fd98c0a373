-- What the opcodes that read and write the operand stack alone do (JVM Specification 6.5). An effect names no local
-- variable, no place in the code, no static field and no object of the heap.
use Rattle.std.specs.Prelude.{ℕ, ℤ, pos, negsuc, ◌+◌, ◌/◌, ◌%◌, ◌^◌, ◌-ℤ◌, Bool, true, false, ◌&&◌, ◌||◌, List, [], ◌∷◌, map, nat_eq, nat_le, nat_lt, int_lt, int_le, int_rem, slice_index_or, if◌then◌else◌}
use Rattle.std.specs.Int.{w32, w64, cast_unsigned, cast_signed, int_wrapping_add, int_wrapping_sub, int_wrapping_mul, int_wrapping_neg, int_wrapping_div, int_shl, int_shr, int_bit_and, int_bit_or, int_bit_xor}
use Rattle.jc_bytes.specs.Descriptor.{Byte, Char, Short}
use Rattle.jc_methods.specs.Opcode as opcode
use Rattle.jc_programs.specs.declared.run_end.Thrown.TheVariants as thrown
use Rattle.jc_programs.specs.declared.run_end.Thrown.{Thrown}
use Rattle.jc_programs.specs.Narrowing.{narrowed}
use Rattle.jc_machine_model.specs.Values.{Value, int, long, null, is_pair}

pub data Effect : Type 0 where
  -- so many operands are taken from the top, and these results stand in their place, the top one first
  gives : (taken : ℕ) → List Value → Effect
  raises : Thrown → Effect
  -- the opcode isn't one of these, or an operand is missing or of another kind
  unfit : Effect

-- the effect of one opcode, before those of others
abbrev pub when : ℕ → ℕ → Effect → Effect → Effect
when op k effect others = if nat_eq op k then effect else others

-- an int in place of so many operands
abbrev pub int_for : ℕ → ℤ → Effect
int_for taken x = gives taken (int x ∷ [])

-- a long in place of so many operands
abbrev pub long_for : ℕ → ℤ → Effect
long_for taken x = gives taken (long x ∷ [])

-- ---- constants

-- nop, aconst_null, iconst_m1 to iconst_5, lconst_0 and lconst_1
unfoldable pub constant : ℕ → Effect
constant op =
    when op opcode.nop (gives 0 []) (
    when op opcode.aconst_null (gives 0 (null ∷ [])) (
    when op opcode.lconst_0 (long_for 0 (pos 0)) (
    when op opcode.lconst_1 (long_for 0 (pos 1)) (int_for 0 (pos op -ℤ pos opcode.iconst_0)))))

-- ---- operands moved

-- the categories of computational types: a value of the second one takes two slots (JVM Specification 2.11.1)
pub data Category : Type 0 where
  category_1 : Category
  category_2 : Category

-- operands of these categories become those at these places, counted from the top in both
pub record Move : Type 0 where
  pub categories : List Category
  pub results : List ℕ

abbrev move : List Category → List ℕ → Move
move categories results = record { categories = categories; results = results }

-- pop, pop2, dup and its kin, and swap: the forms of each, of which at most one fits
unfoldable pub moves_of : ℕ → List Move
moves_of op =
    if nat_eq op opcode.pop then move (category_1 ∷ []) [] ∷ []
    else if nat_eq op opcode.pop2 then move (category_1 ∷ category_1 ∷ []) [] ∷ move (category_2 ∷ []) [] ∷ []
    else if nat_eq op opcode.dup then move (category_1 ∷ []) (0 ∷ 0 ∷ []) ∷ []
    else if nat_eq op opcode.dup_x1 then move (category_1 ∷ category_1 ∷ []) (0 ∷ 1 ∷ 0 ∷ []) ∷ []
    else if nat_eq op opcode.dup_x2 then
    move (category_1 ∷ category_1 ∷ category_1 ∷ []) (0 ∷ 1 ∷ 2 ∷ 0 ∷ [])
    ∷ move (category_1 ∷ category_2 ∷ []) (0 ∷ 1 ∷ 0 ∷ []) ∷ []
    else if nat_eq op opcode.dup2 then
    move (category_1 ∷ category_1 ∷ []) (0 ∷ 1 ∷ 0 ∷ 1 ∷ [])
    ∷ move (category_2 ∷ []) (0 ∷ 0 ∷ []) ∷ []
    else if nat_eq op opcode.dup2_x1 then
    move (category_1 ∷ category_1 ∷ category_1 ∷ []) (0 ∷ 1 ∷ 2 ∷ 0 ∷ 1 ∷ [])
    ∷ move (category_2 ∷ category_1 ∷ []) (0 ∷ 1 ∷ 0 ∷ []) ∷ []
    else if nat_eq op opcode.dup2_x2 then
    move (category_1 ∷ category_1 ∷ category_1 ∷ category_1 ∷ []) (0 ∷ 1 ∷ 2 ∷ 3 ∷ 0 ∷ 1 ∷ [])
    ∷ move (category_2 ∷ category_1 ∷ category_1 ∷ []) (0 ∷ 1 ∷ 2 ∷ 0 ∷ [])
    ∷ move (category_1 ∷ category_1 ∷ category_2 ∷ []) (0 ∷ 1 ∷ 2 ∷ 0 ∷ 1 ∷ [])
    ∷ move (category_2 ∷ category_2 ∷ []) (0 ∷ 1 ∷ 0 ∷ []) ∷ []
    else if nat_eq op opcode.swap then move (category_1 ∷ category_1 ∷ []) (1 ∷ 0 ∷ []) ∷ []
    else []

-- the value is of the category
abbrev pub has_category : Category → Value → Bool
has_category category_1 v = if is_pair v then false else true
has_category category_2 v = is_pair v

-- values of these categories stand at the top of the stack
abbrev pub stand_categories : List Category → List Value → Bool
stand_categories [] stack = true
stand_categories (category ∷ categories) [] = false
stand_categories (category ∷ categories) (v ∷ stack) = has_category category v && stand_categories categories stack

-- how many operands there are
abbrev count : List Category → ℕ
count [] = 0
count (category ∷ categories) = 1 + count categories

-- the operands at these places
abbrev pub results_at : List ℕ → List Value → List Value
results_at places stack = map (λ k. slice_index_or stack k null) places

-- the first form that fits
abbrev pub moved : List Move → List Value → Effect
moved [] stack = unfit
moved (m ∷ moves) stack = if stand_categories m.categories stack then gives (count m.categories) (results_at m.results stack) else moved moves stack

-- ---- arithmetic

-- a divisor of 0 raises
abbrev pub divided : ℤ → Effect → Effect
divided y effect = if int_le y (pos 0) && int_le (pos 0) y then raises thrown.ArithmeticException else effect

-- the five lowest bits of an int, which count the shifts of an int
abbrev pub count_of_32 : ℤ → ℕ
count_of_32 y = cast_unsigned w32 y % 32

-- the six lowest bits of an int, which count the shifts of a long
abbrev pub count_of_64 : ℤ → ℕ
count_of_64 y = cast_unsigned w32 y % 64

-- ishl, ishr, iushr, iand, ior, ixor of x and y
unfoldable pub int_bits : ℕ → ℤ → ℤ → Effect
int_bits op x y =
    when op opcode.ishl (int_for 2 (int_shl w32 x (count_of_32 y))) (
    when op opcode.ishr (int_for 2 (int_shr x (count_of_32 y))) (
    when op opcode.iushr (int_for 2 (cast_signed w32 (cast_unsigned w32 x / 2 ^ count_of_32 y))) (
    when op opcode.iand (int_for 2 (int_bit_and w32 x y)) (
    when op opcode.ior (int_for 2 (int_bit_or w32 x y)) (
    when op opcode.ixor (int_for 2 (int_bit_xor w32 x y)) unfit)))))

-- iadd, isub, imul, idiv, irem of x and y, and the others
unfoldable pub int_pair : ℕ → ℤ → ℤ → Effect
int_pair op x y =
    when op opcode.iadd (int_for 2 (int_wrapping_add w32 x y)) (
    when op opcode.isub (int_for 2 (int_wrapping_sub w32 x y)) (
    when op opcode.imul (int_for 2 (int_wrapping_mul w32 x y)) (
    when op opcode.idiv (divided y (int_for 2 (int_wrapping_div w32 x y))) (
    when op opcode.irem (divided y (int_for 2 (int_rem x y))) (int_bits op x y)))))

-- -1 where the first is less, 1 where it is greater, else 0
unfoldable pub compared : ℤ → ℤ → ℤ
compared x y = if int_lt x y then negsuc 0 else if int_lt y x then pos 1 else pos 0

-- ladd, lsub, lmul, ldiv, lrem, land, lor, lxor, lcmp of x and y
unfoldable pub long_pair : ℕ → ℤ → ℤ → Effect
long_pair op x y =
    when op opcode.ladd (long_for 2 (int_wrapping_add w64 x y)) (
    when op opcode.lsub (long_for 2 (int_wrapping_sub w64 x y)) (
    when op opcode.lmul (long_for 2 (int_wrapping_mul w64 x y)) (
    when op opcode.ldiv (divided y (long_for 2 (int_wrapping_div w64 x y))) (
    when op opcode.lrem (divided y (long_for 2 (int_rem x y))) (
    when op opcode.land (long_for 2 (int_bit_and w64 x y)) (
    when op opcode.lor (long_for 2 (int_bit_or w64 x y)) (
    when op opcode.lxor (long_for 2 (int_bit_xor w64 x y)) (
    when op opcode.lcmp (int_for 2 (compared x y)) unfit))))))))

-- lshl, lshr, lushr of x by y
unfoldable pub long_shift : ℕ → ℤ → ℤ → Effect
long_shift op x y =
    when op opcode.lshl (long_for 2 (int_shl w64 x (count_of_64 y))) (
    when op opcode.lshr (long_for 2 (int_shr x (count_of_64 y))) (
    when op opcode.lushr (long_for 2 (cast_signed w64 (cast_unsigned w64 x / 2 ^ count_of_64 y))) unfit))

-- ineg, i2l, i2b, i2c, i2s of x
unfoldable pub int_single : ℕ → ℤ → Effect
int_single op x =
    when op opcode.ineg (int_for 1 (int_wrapping_neg w32 x)) (
    when op opcode.i2l (long_for 1 x) (
    when op opcode.i2b (int_for 1 (narrowed Byte x)) (
    when op opcode.i2c (int_for 1 (narrowed Char x)) (
    when op opcode.i2s (int_for 1 (narrowed Short x)) unfit))))

-- lneg, l2i of x
unfoldable pub long_single : ℕ → ℤ → Effect
long_single op x =
    when op opcode.lneg (long_for 1 (int_wrapping_neg w64 x)) (
    when op opcode.l2i (int_for 1 (cast_signed w32 (cast_unsigned w64 x % 2 ^ 32))) unfit)

-- one operand
unfoldable pub single : ℕ → List Value → Effect
single op (int x ∷ stack) = int_single op x
single op (long x ∷ stack) = long_single op x
single op _ = unfit

-- two operands, the second of them on top
unfoldable pub pair : ℕ → List Value → Effect
pair op (int y ∷ int x ∷ stack) = int_pair op x y
pair op (long y ∷ long x ∷ stack) = long_pair op x y
pair op (int y ∷ long x ∷ stack) = long_shift op x y
pair op _ = unfit

-- ineg to dneg, and i2l to i2s
abbrev pub has_one_operand : ℕ → Bool
has_one_operand op = (nat_le opcode.ineg op && nat_le op opcode.dneg) || (nat_le opcode.i2l op && nat_le op opcode.i2s)

-- ---- the table

-- the effect of an opcode on the operands at the top of the stack
unfoldable pub effect : ℕ → List Value → Effect
effect op stack =
    if nat_le op opcode.lconst_1 then constant op
    else if nat_lt op opcode.iadd then moved (moves_of op) stack
    else if has_one_operand op then single op stack
    else pair op stack
