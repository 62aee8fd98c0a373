-- The one text that is written for a store.
use Rattle.std.specs.Prelude.{⊤, ◌≡◌, ◌&&◌, ℕ, zero, suc, ◌+◌, ◌/◌, ◌%◌, ℤ, int_le, nat_lt, Bool}
use Rattle.std.specs.Prelude.{true, List, [], ◌∷◌, ◌++◌, length, filter, if◌then◌else◌}
use Rattle.std.specs.List.{AllByRecursion, flat_map, list_any}
use Rattle.std.specs.Int.{w64, cast_unsigned}
use Rattle.byteorder.specs.Endian.{big_bytes}
use Rattle.jc_exec.specs.declared.hits.ClassHits.{ClassHits}
use Rattle.jc_exec.specs.declared.session.Session.{Session}
use Rattle.jc_exec.specs.Format.{header_text}
pub use Rattle.jc_exec.specs.Packed.{low_first, pack, packed}
use Rattle.jc_exec.specs.Store.{Store, IsWritable, IsWritableClass}

-- numbers of eight and of two bytes
unfoldable pub id_text : ℕ → List ℕ
id_text id = big_bytes 8 id

unfoldable pub size_text : ℕ → List ℕ
size_text n = big_bytes 2 n

-- a count in its shortest spelling, of at most k + 1 bytes
abbrev pub shortest : ℕ → ℕ → List ℕ
shortest zero n = n ∷ []
shortest (suc k) n = if nat_lt n 128 then n ∷ [] else (n % 128 + 128) ∷ shortest k (n / 128)

unfoldable pub count_text : ℕ → List ℕ
count_text n = shortest 4 n

abbrev pub class_text : ClassHits → List ℕ
class_text c = 0x11 ∷ id_text c.id ++ (size_text (length c.name) ++ (c.name ++ (count_text (length c.bits) ++ packed c.bits)))

-- a time of a session
abbrev pub time_text : ℤ → List ℕ
time_text t = id_text (cast_unsigned w64 t)

abbrev pub session_text : Session → List ℕ
session_text s = 0x10 ∷ size_text (length s.id) ++ (s.id ++ (time_text s.start ++ time_text s.dump))

-- a session in front of the first that was dumped no earlier
abbrev pub placed : Session → List Session → List Session
placed s [] = s ∷ []
placed s (t ∷ ts) = if int_le s.dump t.dump then s ∷ t ∷ ts else t ∷ placed s ts

-- the sessions by the time of their dump; those of one time stay in their order
abbrev pub by_dump : List Session → List Session
by_dump [] = []
by_dump (s ∷ ss) = placed s (by_dump ss)

-- each is dumped no later than those behind it
abbrev pub InOrder : List Session → Type 0
InOrder [] = ⊤
InOrder (s ∷ ss) = AllByRecursion (λ t. int_le s.dump t.dump ≡ true) ss × InOrder ss

-- the session was dumped at the time
abbrev pub is_dumped_at : ℤ → Session → Bool
is_dumped_at time s = int_le s.dump time && int_le time s.dump

-- the later list has the sessions by the time of their dump, and those of each time as they were
pub record IsByDump (old new : List Session) : Type 0 where
  pub sorted : InOrder new
  pub stable : (time : ℤ) → filter (is_dumped_at time) new ≡ filter (is_dumped_at time) old

-- a probe was hit
abbrev pub is_hit : ClassHits → Bool
is_hit c = list_any (λ b. b) c.bits

-- one header, the sessions by the time of their dump, and the records that have a hit
abbrev pub exec_text : Store → List ℕ
exec_text store = header_text ++ (flat_map session_text (by_dump store.sessions) ++ flat_map class_text (filter is_hit store.classes))

-- ---- what is written is read

-- what the store holds fits the format
pub record FitsFormat (store : Store) : Type 0 where
  pub sessions : AllByRecursion IsWritable store.sessions
  pub classes : AllByRecursion IsWritableClass store.classes

-- the sessions by the time of their dump, and the records that have a hit
abbrev pub written : Store → Store
written store = record { sessions = by_dump store.sessions; classes = filter is_hit store.classes }
