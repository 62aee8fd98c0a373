-- Reading one item of a constant pool from the front of the bytes that are left.
use Rattle.std.specs.Prelude.{ℕ, ◌==◌, List, take, Option, Some, None, nat_lt, ◌||◌, if◌then◌else◌}
use Rattle.std.specs.Int.{w32, w64, cast_signed}
use Rattle.jc_bytes.specs.Decoder.{◌>>=◌, first, byte_at, number_at}
use Rattle.jc_pool.specs.declared.entry.Entry.{Entry}
use Rattle.jc_pool.specs.declared.entry.Entry.TheVariants as entry
use Rattle.jc_pool.specs.Pool.{is_wide, width}

-- a count above 0
unfoldable pub count_at : List ℕ → Option (ℕ × List ℕ)
count_at left = do
  n ← number_at 2 left
  if n.0 == 0 then None else Some n

-- an entry, if there is one, and the bytes behind it
abbrev pub with_left : List ℕ → Option Entry → Option (Entry × List ℕ)
with_left left (Some e) = Some (e, left)
with_left left None = None

-- a size, and as many bytes of text
unfoldable pub utf8_at : List ℕ → Option (Entry × List ℕ)
utf8_at left = do
  size ← number_at 2 left
  text ← first size.0 (take size.0) size.1
  Some (entry.Utf8 text.0, text.1)

unfoldable pub integer_at : List ℕ → Option (Entry × List ℕ)
integer_at left = do
  n ← number_at 4 left
  Some (entry.Integer (cast_signed w32 n.0), n.1)

unfoldable pub float_at : List ℕ → Option (Entry × List ℕ)
float_at left = do
  n ← number_at 4 left
  Some (entry.Float n.0, n.1)

unfoldable pub long_at : List ℕ → Option (Entry × List ℕ)
long_at left = do
  n ← number_at 8 left
  Some (entry.Long (cast_signed w64 n.0), n.1)

unfoldable pub double_at : List ℕ → Option (Entry × List ℕ)
double_at left = do
  n ← number_at 8 left
  Some (entry.Double n.0, n.1)

-- the entry of this tag that names one place
abbrev pub of_place : ℕ → ℕ → Option Entry
of_place tag a =
    if tag == 7 then Some (entry.Class a)
    else if tag == 8 then Some (entry.String a)
    else if tag == 16 then Some (entry.MethodType a)
    else if tag == 19 then Some (entry.Module a)
    else if tag == 20 then Some (entry.Package a)
    else None

unfoldable pub naming_one_at : ℕ → List ℕ → Option (Entry × List ℕ)
naming_one_at tag left = do
  a ← number_at 2 left
  with_left a.1 (of_place tag a.0)

-- the entry of this tag that names two places
abbrev pub of_places : ℕ → ℕ → ℕ → Option Entry
of_places tag a b =
    if tag == 9 then Some (entry.Fieldref a b)
    else if tag == 10 then Some (entry.Methodref a b)
    else if tag == 11 then Some (entry.InterfaceMethodref a b)
    else if tag == 12 then Some (entry.NameAndType a b)
    else if tag == 17 then Some (entry.Dynamic a b)
    else if tag == 18 then Some (entry.InvokeDynamic a b)
    else None

unfoldable pub naming_two_at : ℕ → List ℕ → Option (Entry × List ℕ)
naming_two_at tag left = do
  a ← number_at 2 left
  b ← number_at 2 a.1
  with_left b.1 (of_places tag a.0 b.0)

unfoldable pub handle_at : List ℕ → Option (Entry × List ℕ)
handle_at left = do
  kind ← byte_at left
  reference ← number_at 2 kind.1
  Some (entry.MethodHandle kind.0 reference.0, reference.1)

-- what stands behind the tag
unfoldable pub info_at : ℕ → List ℕ → Option (Entry × List ℕ)
info_at tag left =
    if tag == 1 then utf8_at left
    else if tag == 3 then integer_at left
    else if tag == 4 then float_at left
    else if tag == 5 then long_at left
    else if tag == 6 then double_at left
    else if tag == 15 then handle_at left
    else if tag == 7 || tag == 8 || tag == 16 || tag == 19 || tag == 20 then naming_one_at tag left
    else naming_two_at tag left

unfoldable pub entry_at : List ℕ → Option (Entry × List ℕ)
entry_at left = do
  tag ← byte_at left
  info_at tag.0 tag.1

-- an entry that takes one place
abbrev pub narrow_only : Entry × List ℕ → Option (Entry × List ℕ)
narrow_only read = if is_wide read.0 then None else Some read

unfoldable pub narrow_at : List ℕ → Option (Entry × List ℕ)
narrow_at left = entry_at left >>= narrow_only

-- an entry that takes no more places than there are
unfoldable pub fitting_at : ℕ → List ℕ → Option (Entry × List ℕ)
fitting_at places left = do
  e ← entry_at left
  if nat_lt places (width e.0) then None else Some e
