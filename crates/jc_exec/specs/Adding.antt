-- What a file adds to a store, as it is gathered apart: sessions, and records by their ids. A record whose id
-- is in the store is gathered with the bits of both.
use Rattle.std.specs.Prelude.{◌≡◌, ◌≢◌, ◌⊎◌, ℕ, ◌+◌, List, [], ◌∷◌, ◌++◌, length, Some, nat_eq, ⊤, true, false, Result, Ok, Err}
use Rattle.std.specs.List.{AllByRecursion}
use Rattle.std.specs.Map.{lookup, set_value}
use Rattle.indexmap.specs.IndexMap.{insert_all}
use Rattle.jc_bytes.specs.declared.fail.Fail.{Fail}
use Rattle.jc_bytes.specs.declared.fail.Fail.TheVariants as fails
use Rattle.jc_exec.specs.declared.hits.ClassHits.{ClassHits}
use Rattle.jc_exec.specs.declared.session.Session.{Session}
use Rattle.jc_exec.specs.declared.refusal.ExecRefusal.{ExecRefusal}
use Rattle.jc_exec.specs.Answers.{why_of, conflict_of, Refuses, RefusesRecord}
use Rattle.jc_exec.specs.Format.{Block, header, session, class, IsClassBlock, AreBlocks, Blocks, BeginsWithHeader}
use Rattle.jc_exec.specs.Front.{MayStandAt, IsUnfit, reading_at}
use Rattle.jc_exec.specs.Store.{Store, IsWritable, Keyed, classes_of}
use Rattle.jc_exec.specs.Union.{agree, either_hits, with_record, with_block, union_of}

-- records under their ids
abbrev pub Entries : Type 0
Entries = List (ℕ × ClassHits)

-- sessions and records, as a table holds them
pub record Held : Type 0 where
  pub sessions : List Session
  pub records : Entries

-- with one session more
abbrev pub with_session : Held → Session → Held
with_session held s = record { sessions = held.sessions ++ s ∷ []; records = held.records }

-- with other records
abbrev pub with_records : Held → Entries → Held
with_records held es = record { sessions = held.sessions; records = es }

-- the records of a store once those that were gathered replace the ones of their ids
abbrev pub over : Entries → Entries → List ClassHits
over known fresh = classes_of (insert_all nat_eq known fresh)

-- a record more was merged into the records of the store and the gathered ones
pub record Merges (known old new : Entries) (hits : ClassHits) : Type 0 where
  pub merged : with_record (over known old) hits ≡ Some (over known new)
  pub keyed : Keyed new

-- a record more was merged into the records of a store
pub record Puts (old new : Entries) (hits : ClassHits) : Type 0 where
  pub merged : with_record (classes_of old) hits ≡ Some (classes_of new)
  pub keyed : Keyed new

-- ---- one record

-- why two records are not merged; want of memory may come at any time
abbrev pub RefusesMerging : ClassHits → ClassHits → Fail ExecRefusal → Type 0
RefusesMerging there hits fails.Memory = ⊤
RefusesMerging there hits (fails.Said refusal) = (agree there hits ≡ false) × (why_of refusal ≡ conflict_of there hits)

-- the two agree, and the record has the bits of both
abbrev pub GivesMerged : ClassHits → ClassHits → ClassHits → Type 0
GivesMerged there hits merged = (agree there hits ≡ true) × (merged ≡ either_hits there hits)

-- the record took the bits of the other, or stayed
abbrev pub MergesInto : Result (Unit {0}) (Fail ExecRefusal) → ClassHits → ClassHits → ClassHits → Type 0
MergesInto (Ok done) old new hits = GivesMerged old hits new
MergesInto (Err e) old new hits = (new ≡ old) × RefusesMerging old hits e

-- the record of the id is there, and took the bits of another, or stayed
abbrev pub MergesHeld : Result (Unit {0}) (Fail ExecRefusal) → Held → Held → ClassHits → Type 0
MergesHeld r old new hits = (c : ClassHits) × (v : ClassHits) × (lookup (nat_eq hits.id) old.records ≡ Some c)
    × MergesInto r c v hits × (new ≡ with_records old (set_value (nat_eq hits.id) old.records v))

-- ---- all that was gathered

-- the store of these sessions and records with what was gathered
abbrev pub store_with : List Session → Entries → List Session → Entries → Store
store_with sessions known more fresh = record { sessions = sessions ++ more; classes = over known fresh }

abbrev pub store_of : List Session → Entries → Store
store_of sessions known = record { sessions = sessions; classes = classes_of known }

-- the text is a list of blocks, and with their sessions and records the store is their union, block by block
pub record Gathers (known : Entries) (text : List ℕ) (more : List Session) (fresh : Entries) : Type 0 where
  pub read : List Block
  pub blocks : Blocks text read
  pub union : (sessions : List Session) → union_of (store_of sessions known) read ≡ Some (store_with sessions known more fresh)
  pub writable : AllByRecursion IsWritable more
  pub keyed : Keyed fresh

-- a block more was put with what was gathered: the union goes on with it
pub record Keeps (known : Entries) (old new : Held) (b : Block) : Type 0 where
  pub union : (sessions : List Session)
      → with_block (store_with sessions known old.sessions old.records) b
      ≡ Some (store_with sessions known new.sessions new.records)
  pub writable : AllByRecursion IsWritable old.sessions → AllByRecursion IsWritable new.sessions
  pub keyed : Keyed new.records

-- why a block is not put with what was gathered; want of memory may come at any time
abbrev pub RefusesBlock : Fail ExecRefusal → Entries → Entries → Block → Type 0
RefusesBlock e known fresh header = e ≡ fails.Memory
RefusesBlock e known fresh (session s) = e ≡ fails.Memory
RefusesBlock e known fresh (class c) = RefusesRecord e (over known fresh) c

-- why a text is refused over these records, with whatever sessions
abbrev pub RefusesAll : Entries → List ℕ → Fail ExecRefusal → Type 0
RefusesAll known text e = (sessions : List Session) → Refuses e (store_of sessions known) text

-- ---- some blocks of a file

-- what is held, as a store
abbrev pub held_store : Held → Store
held_store held = store_of held.sessions held.records

-- a store with what was gathered
abbrev pub with_added : List Session → Entries → Held → Store
with_added sessions known held = store_with sessions known held.sessions held.records

-- bytes that begin at the offset of a file are a list of blocks, which may stand there, and these were put with what was gathered
pub record Adds (known : Entries) (offset : ℕ) (bytes : List ℕ) (old new : Held) : Type 0 where
  pub read : List Block
  pub whole : AreBlocks bytes read
  pub begins : offset ≡ 0 → BeginsWithHeader read
  pub union : (sessions : List Session) → union_of (with_added sessions known old) read ≡ Some (with_added sessions known new)
  pub writable : AllByRecursion IsWritable old.sessions → AllByRecursion IsWritable new.sessions
  pub keyed : Keyed new.records

-- the blocks in front were put, and no block that may stand behind them is next
pub record StopsUnfit (known : Entries) (offset : ℕ) (bytes : List ℕ) (old new : Held) (why : ExecRefusal) : Type 0 where
  pub taken : List ℕ
  pub left : List ℕ
  pub parts : bytes ≡ taken ++ left
  pub adds : Adds known offset taken old new
  pub some : left ≢ []
  pub unfit : IsUnfit (reading_at (offset + length taken) left) (why_of why)

-- the blocks in front have a union, over which the class block behind them is refused
pub record StopsClash (known : Entries) (offset : ℕ) (bytes : List ℕ) (old : Held) (why : ExecRefusal) : Type 0 where
  pub taken : List ℕ
  pub front : List ℕ
  pub more : List ℕ
  pub parts : bytes ≡ taken ++ (front ++ more)
  pub reached : Held
  pub adds : Adds known offset taken old reached
  pub hits : ClassHits
  pub block : IsClassBlock front hits
  pub follows : MayStandAt (offset + length taken) (class hits)
  pub refused : RefusesRecord (fails.Said why) (over known reached.records) hits

-- why not all of the bytes were put; want of memory may come at any time
abbrev pub IsStop : Entries → ℕ → List ℕ → Held → Held → Fail ExecRefusal → Type 0
IsStop known offset bytes old new fails.Memory = ⊤
IsStop known offset bytes old new (fails.Said why) = StopsUnfit known offset bytes old new why ⊎ StopsClash known offset bytes old why
