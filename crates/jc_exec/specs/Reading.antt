-- Reading a block from the front of the bytes that are left.
use Rattle.std.specs.Prelude.{ℕ, zero, suc, ◌+◌, ◌-◌, ◌*◌, ◌/◌, List, [], ◌∷◌, take, Bool}
use Rattle.std.specs.Prelude.{Option, Some, None, nat_lt, bytes_eq, ◌==◌, if◌then◌else◌}
use Rattle.std.specs.Int.{w64, cast_signed}
use Rattle.jc_bytes.specs.Decoder.{◌>>=◌, first, byte_at, number_at}
use Rattle.jc_exec.specs.declared.hits.ClassHits.{ClassHits}
use Rattle.jc_exec.specs.declared.session.Session.{Session}
use Rattle.jc_exec.specs.Format.{unpack}

-- a length of two bytes, and as many bytes
unfoldable pub text_at : List ℕ → Option (List ℕ × List ℕ)
text_at left = do
  size ← number_at 2 left
  first size.0 (take size.0) size.1

-- a count whose first byte may have a count of this kind behind it
abbrev pub count_behind : (List ℕ → Option (ℕ × List ℕ)) → List ℕ → Option (ℕ × List ℕ)
count_behind behind left = do
  byte ← byte_at left
  if nat_lt byte.0 128 then Some byte else (do
    high ← behind byte.1
    Some (byte.0 - 128 + 128 * high.0, high.1))

-- a count of at most so many bytes
unfoldable pub count_in : ℕ → List ℕ → Option (ℕ × List ℕ)
count_in zero left = None
count_in (suc k) left = count_behind (count_in k) left

unfoldable pub count_at : List ℕ → Option (ℕ × List ℕ)
count_at left = do
  n ← count_in 5 left
  if nat_lt n.0 65536 then Some n else None

unfoldable pub bits_at : ℕ → List ℕ → Option (List Bool × List ℕ)
bits_at n left = first ((n + 7) / 8) (unpack n) left

unfoldable pub class_at : List ℕ → Option (ClassHits × List ℕ)
class_at left = do
  kind ← byte_at left
  if kind.0 == 0x11 then (do
    id ← number_at 8 kind.1
    name ← text_at id.1
    count ← count_at name.1
    bits ← bits_at count.0 count.1
    Some (record { id = id.0; name = name.0; bits = bits.0 }, bits.1)) else None

-- the version of a header
unfoldable pub version_at : List ℕ → Option (ℕ × List ℕ)
version_at left = do
  magic ← first 3 (take 3) left
  if bytes_eq magic.0 (0x01 ∷ 0xc0 ∷ 0xc0 ∷ []) then number_at 2 magic.1 else None

unfoldable pub session_at : List ℕ → Option (Session × List ℕ)
session_at left = do
  kind ← byte_at left
  if kind.0 == 0x10 then (do
    id ← text_at kind.1
    start ← number_at 8 id.1
    dump ← number_at 8 start.1
    Some (record { id = id.0; start = cast_signed w64 start.0; dump = cast_signed w64 dump.0 }, dump.1)) else None
