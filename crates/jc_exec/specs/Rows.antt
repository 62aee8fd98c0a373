-- Records and sessions whose texts stand in one list of bytes, one behind the other.
use Rattle.std.specs.Prelude.{◌≡◌, true, Result, Ok, Err, ℕ, ◌+◌, ◌/◌, ◌≤◌, List, [], ◌∷◌, ◌++◌, length, take, drop, map}
use Rattle.std.specs.List.{AllByRecursion}
use Rattle.jc_bytes.specs.declared.fail.Fail.{Fail}
use Rattle.jc_exec.specs.declared.hits.ClassHits.{ClassHits}
use Rattle.jc_exec.specs.declared.packed_records.Row.{Row}
use Rattle.jc_exec.specs.declared.packed_sessions.SessionRow.{SessionRow}
use Rattle.jc_exec.specs.declared.refusal.ExecRefusal.{ExecRefusal}
use Rattle.jc_exec.specs.declared.session.Session.{Session}
use Rattle.jc_exec.specs.Adding.{RefusesMerging}
use Rattle.jc_exec.specs.Packed.{unpack, packed}
use Rattle.jc_exec.specs.Union.{agree, either_bits}

-- so many bytes from a place on
abbrev pub part : List ℕ → ℕ → ℕ → List ℕ
part bytes from size = take size (drop from bytes)

-- the bytes with others in place of as many from a place on
abbrev pub with_part : List ℕ → ℕ → List ℕ → List ℕ
with_part bytes from new = take from bytes ++ (new ++ drop (from + length new) bytes)

-- ---- records

-- where the bits of a record begin, and how many bytes they are
abbrev pub bits_from : Row → ℕ
bits_from r = r.from + r.name

abbrev pub bits_size : Row → ℕ
bits_size r = (r.count + 7) / 8

-- behind the record
abbrev pub end_of : Row → ℕ
end_of r = bits_from r + bits_size r

-- the record of an id whose name and bits stand there
abbrev pub hits_at : List ℕ → ℕ → Row → ClassHits
hits_at bytes id r = record { id = id; name = part bytes r.from r.name; bits = unpack r.count (part bytes (bits_from r) (bits_size r)) }

-- the records of these ids
abbrev pub hits_of : List ℕ → List ℕ → List Row → List ClassHits
hits_of bytes ids [] = []
hits_of bytes [] (r ∷ rs) = []
hits_of bytes (id ∷ ids) (r ∷ rs) = hits_at bytes id r ∷ hits_of bytes ids rs

-- each record stands behind the ones before it, and in front of the end
abbrev pub AreLaid : ℕ → List Row → ℕ → Type 0
AreLaid from [] end = from ≤ end
AreLaid from (r ∷ rs) end = (from ≤ r.from) × AreLaid (end_of r) rs end

-- each record has an id, and stands in the bytes
pub record ArePacked (bytes ids : List ℕ) (rows : List Row) : Type 0 where
  pub known : length rows ≤ length ids
  pub laid : AreLaid 0 rows (length bytes)

-- the record that stands there took the bits of another, or stayed
abbrev pub TakesIn : Result (Unit {0}) (Fail ExecRefusal) → List ℕ → List ℕ → Row → ClassHits → Type 0
TakesIn (Ok done) old new r hits = (agree (hits_at old hits.id r) hits ≡ true)
    × (new ≡ with_part old (bits_from r) (packed (either_bits (hits_at old hits.id r).bits hits.bits)))
TakesIn (Err e) old new r hits = (new ≡ old) × RefusesMerging (hits_at old hits.id r) hits e

-- ---- sessions

-- the session whose name stands there
abbrev pub session_at : List ℕ → SessionRow → Session
session_at names r = record { id = part names r.from r.size; start = r.start; dump = r.dump }

abbrev pub sessions_in : List ℕ → List SessionRow → List Session
sessions_in names rows = map (session_at names) rows

-- its name stands in so many bytes
abbrev pub IsInside : ℕ → SessionRow → Type 0
IsInside end r = r.from + r.size ≤ end

abbrev pub AreInside : ℕ → List SessionRow → Type 0
AreInside end rows = AllByRecursion (IsInside end) rows
