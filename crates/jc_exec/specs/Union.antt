-- The union of a list of blocks.
use Rattle.std.specs.Prelude.{◌≡◌, ℕ, ◌<◌, ◌↔◌, Bool, false, ◌&&◌, ◌||◌, IsTrue, List, [], ◌∷◌, ◌++◌, length, map, Option}
use Rattle.std.specs.Prelude.{Some, None, option_map, option_and_then, Contains, nat_eq, bytes_eq, slice_index_or, if◌then◌else◌}
use Rattle.std.specs.List.{AllByRecursion}
use Rattle.jc_bytes.specs.FirstSeen.{first_seen}
use Rattle.jc_exec.specs.declared.hits.ClassHits.{ClassHits}
use Rattle.jc_exec.specs.declared.session.Session.{Session}
use Rattle.jc_exec.specs.Format.{Block, header, session, class, Blocks}
use Rattle.jc_exec.specs.Store.{Store}

-- the sessions of the blocks, in order
abbrev pub sessions_of : List Block → List Session
sessions_of [] = []
sessions_of (header ∷ bs) = sessions_of bs
sessions_of (session s ∷ bs) = s ∷ sessions_of bs
sessions_of (class c ∷ bs) = sessions_of bs

-- the records of the blocks, in order
abbrev pub records_of : List Block → List ClassHits
records_of [] = []
records_of (header ∷ bs) = records_of bs
records_of (session s ∷ bs) = records_of bs
records_of (class c ∷ bs) = c ∷ records_of bs

abbrev pub ids_of : List ClassHits → List ℕ
ids_of cs = map (λ c. c.id) cs

-- the same name, and as many probes
pub record Agrees (c d : ClassHits) : Type 0 where
  pub name : c.name ≡ d.name
  pub count : length c.bits ≡ length d.bits

-- probe k is hit
abbrev pub IsHitAt : ClassHits → ℕ → Type 0
IsHitAt c k = IsTrue (slice_index_or c.bits k false)

-- some record of the id has probe k hit
abbrev pub SomeIsHitAt : List ClassHits → ℕ → ℕ → Type 0
SomeIsHitAt records id k = (r : ClassHits) × Contains records r × (r.id ≡ id) × IsHitAt r k

-- c has the name and the number of probes that each record of its id has, and a probe of it is hit
-- exactly where it is hit in some record of its id
pub record IsMerged (records : List ClassHits) (c : ClassHits) : Type 0 where
  pub agrees : (r : ClassHits) → Contains records r → r.id ≡ c.id → Agrees r c
  pub hits : (k : ℕ) → k < length c.bits → IsHitAt c k ↔ SomeIsHitAt records c.id k

-- The store is the union of the blocks: their sessions in order, and for each class id, in the order in
-- which they are first seen, one merged record. Records of one id that do not agree have no union.
pub record IsUnion (blocks : List Block) (store : Store) : Type 0 where
  pub sessions : store.sessions ≡ sessions_of blocks
  pub ids : ids_of store.classes ≡ first_seen (ids_of (records_of blocks))
  pub merged : AllByRecursion (IsMerged (records_of blocks)) store.classes

-- the text holds some blocks, and what they add to any list of blocks makes the new store of the old
abbrev pub ReadsOn : List ℕ → Store → Store → Type 0
ReadsOn text old new = (blocks : List Block) → IsUnion blocks old → (read : List Block) × Blocks text read × IsUnion (blocks ++ read) new

-- ---- the union, record by record

-- bit by bit, whether one of the two is true
abbrev pub either_bits : List Bool → List Bool → List Bool
either_bits [] ys = []
either_bits (x ∷ xs) [] = x ∷ xs
either_bits (x ∷ xs) (y ∷ ys) = (x || y) ∷ either_bits xs ys

-- the record has the name, and so many probes
abbrev pub fits : ClassHits → List ℕ → ℕ → Bool
fits c name count = bytes_eq c.name name && nat_eq (length c.bits) count

abbrev pub agree : ClassHits → ClassHits → Bool
agree c d = fits c d.name (length d.bits)

-- a record with the bits of another of its id
abbrev pub either_hits : ClassHits → ClassHits → ClassHits
either_hits c r = record c { bits = either_bits c.bits r.bits }

-- the records with one more: merged into the one of its id, or put last
abbrev pub with_record : List ClassHits → ClassHits → Option (List ClassHits)
with_record [] r = Some (r ∷ [])
with_record (c ∷ cs) r =
    if nat_eq c.id r.id then (if agree c r then Some (either_hits c r ∷ cs) else None)
    else option_map (λ ds. c ∷ ds) (with_record cs r)

abbrev pub with_block : Store → Block → Option Store
with_block s header = Some s
with_block s (session t) = Some (record s { sessions = s.sessions ++ t ∷ [] })
with_block s (class c) = option_map (λ cs. record s { classes = cs }) (with_record s.classes c)

-- the blocks put into the store one after the other, unless two records do not agree
abbrev pub union_of : Store → List Block → Option Store
union_of s [] = Some s
union_of s (b ∷ bs) = option_and_then (λ t. union_of t bs) (with_block s b)
