-- Reading one item of a class file from the front of the bytes that are left.
use Rattle.std.specs.Prelude.{ℕ, ◌+◌, ◌*◌, ◌==◌, nat_lt, Bool, true, false, not, ◌&&◌, ◌||◌, List, [], ◌∷◌, length, take, codes, bytes_eq}
use Rattle.std.specs.Prelude.{Option, Some, None, is_some, if◌then◌else◌}
use Rattle.std.specs.Int.Bits.{bit_and}
use Rattle.jc_bytes.specs.Decoder.{◌>>=◌, first, number_at}
use Rattle.jc_bytes.specs.Deciding.{is_modified_text, is_field_text, is_method_text}
use Rattle.jc_pool.specs.Lookup.{utf8_of, class_name_of}
use Rattle.jc_pool.specs.Pool.{PoolValue}
use Rattle.jc_class.specs.declared.item.Named.{Named}
use Rattle.jc_class.specs.declared.item.Named.TheVariants as named

-- a text stands there and passes the test
abbrev pub passes : (List ℕ → Bool) → Option (List ℕ) → Bool
passes test None = false
passes test (Some text) = test text

-- a Class entry whose name is modified UTF-8
unfoldable pub has_class : PoolValue → ℕ → Bool
has_class pool place = passes is_modified_text (class_name_of pool place)

-- what is to stand there stands there
unfoldable pub names : PoolValue → Named → ℕ → Bool
names pool named.Text place = is_some (utf8_of pool place)
names pool named.Class place = has_class pool place
names pool named.ClassOrNone place = place == 0 || has_class pool place
names pool named.FieldDescriptor place = passes is_field_text (utf8_of pool place)
names pool named.MethodDescriptor place = passes is_method_text (utf8_of pool place)

-- a number of two bytes that passes the test
unfoldable pub number_if : (ℕ → Bool) → List ℕ → Option (ℕ × List ℕ)
number_if test left = do
  n ← number_at 2 left
  if test n.0 then Some n else None

-- the bytes in front of every class file
unfoldable pub magic_at : List ℕ → Option (Unit {0} × List ℕ)
magic_at left = do
  n ← number_at 4 left
  if n.0 == 0xcafebabe then Some (tt, n.1) else None

-- ---- the constant of a static field

-- the bytes are a place of the pool, where they are two
unfoldable pub names_place : PoolValue → List ℕ → Bool
names_place pool (high ∷ low ∷ []) = nat_lt (high * 256 + low) (length pool)
names_place pool bytes = true

-- the attribute of a field with these flags holds the place of its constant
unfoldable pub is_constant : PoolValue → (flags name : ℕ) → Bool
is_constant pool flags name = not (bit_and flags 0x0008 == 0) && passes (λ text. bytes_eq text (codes "ConstantValue")) (utf8_of pool name)

-- the bytes of an attribute of a field
unfoldable pub field_piece_at : PoolValue → (flags name size : ℕ) → List ℕ → Option (List ℕ × List ℕ)
field_piece_at pool flags name size left = do
  piece ← first size (take size) left
  if names_place pool piece.0 || not (is_constant pool flags name) then Some piece else None
