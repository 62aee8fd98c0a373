-- Which block of execution data is refused first, and why.
use Rattle.std.specs.Prelude.{⊤, ◌≡◌, ◌≢◌, ℕ, List, [], ◌∷◌, ◌++◌, length, map, Contains}
use Rattle.jc_bytes.specs.Decoder.{IsBig}
use Rattle.jc_exec.specs.declared.hits.ClassHits.{ClassHits}
use Rattle.jc_exec.specs.Format.{Block, session, class, IsBlock, IsClassBlock, Blocks, BeginsWithHeader}
use Rattle.jc_exec.specs.Store.{Store, IsNew}
use Rattle.jc_exec.specs.Union.{Agrees, IsUnion}

-- why a block is refused: it is none, or a header of another version, or it names a class whose id is
-- there with another name or another number of probes (those that are there first, then those of the block)
pub data Refused : Type 0 where
  bad_exec : (offset : ℕ) → Refused
  other_version : (found : ℕ) → Refused
  conflict : (id : ℕ) (first second : List ℕ) (first_count second_count : ℕ) → Refused

-- blocks whose union is the store
abbrev pub blocks_of : Store → List Block
blocks_of s = map session s.sessions ++ map class s.classes

-- the block may stand behind these: the first of all is a header
abbrev pub MayFollow : List Block → Block → Type 0
MayFollow read b = BeginsWithHeader (read ++ b ∷ [])

-- a whole header with the magic number, of this other version, stands in front
pub record HasOtherHeader (text : List ℕ) (found : ℕ) : Type 0 where
  pub version : List ℕ
  pub more : List ℕ
  pub parts : text ≡ 0x01 ∷ 0xc0 ∷ 0xc0 ∷ version ++ more
  pub value : IsBig 2 version found
  pub other : found ≢ 0x1007

-- a class block stands in front whose id is in the store with another name or another number of probes
pub record HasConflict (read : List Block) (store : Store) (text : List ℕ) (there hits : ClassHits) : Type 0 where
  pub front : List ℕ
  pub more : List ℕ
  pub parts : text ≡ front ++ more
  pub block : IsClassBlock front hits
  pub follows : MayFollow read (class hits)
  pub holds : Contains store.classes there
  pub same_id : there.id ≡ hits.id
  pub differs : Agrees there hits → ⊥

-- neither a block that may follow nor a header of another version stands in front, and something does
pub record HasNoBlock (read : List Block) (text : List ℕ) : Type 0 where
  pub some : text ≢ []
  pub none : (b : Block) (front more : List ℕ) → text ≡ front ++ more → IsBlock front b → MayFollow read b → ⊥
  pub known : (found : ℕ) → HasOtherHeader text found → ⊥

-- what stands behind these blocks, at the offset, is refused over the store that they make
abbrev pub RefusedHere : List Block → Store → ℕ → List ℕ → Refused → Type 0
RefusedHere read store offset text (bad_exec p) = (p ≡ offset) × HasNoBlock read text
RefusedHere read store offset text (other_version found) = HasOtherHeader text found
RefusedHere read store offset text (conflict id first second m n) =
    (there hits : ClassHits) × HasConflict read store text there hits × (id ≡ hits.id)
    × (first ≡ there.name) × (second ≡ hits.name) × (m ≡ length there.bits) × (n ≡ length hits.bits)

-- The refusal of the first block of the text that is not taken over the store before: the blocks in front
-- of it have a union with that store, and it is refused there.
pub record FirstRefusal (before : Store) (text : List ℕ) (why : Refused) : Type 0 where
  pub read : List Block
  pub taken : List ℕ
  pub rest : List ℕ
  pub store : Store
  pub parts : text ≡ taken ++ rest
  pub blocks : Blocks taken read
  pub union : IsUnion (blocks_of before ++ read) store
  pub refused : RefusedHere read store (length taken) rest why

-- the text is execution data, and its blocks have a union with the store before
abbrev pub IsTaken : Store → List ℕ → Type 0
IsTaken before text = (read : List Block) × (s : Store) × Blocks text read × IsUnion (blocks_of before ++ read) s

-- a block of the text is the first that is not taken over the store before
abbrev pub IsRefused : Store → List ℕ → Type 0
IsRefused before text = (why : Refused) × FirstRefusal before text why

-- no two records have one id
abbrev pub OneOfEachId : List ClassHits → Type 0
OneOfEachId [] = ⊤
OneOfEachId (c ∷ cs) = IsNew c.id cs × OneOfEachId cs
