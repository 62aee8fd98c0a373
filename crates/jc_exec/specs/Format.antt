-- The format of execution data, version 1007 of JaCoCo's documentation: a list of blocks, each of
-- which begins with a byte that says its kind. Numbers are big-endian.
use Rattle.std.specs.Prelude.{◌≡◌, ℕ, ◌+◌, ◌*◌, ◌/◌, ◌<◌, ◌≤◌, Bool, List, [], ◌∷◌, ◌++◌, length, ℤ, ⊤}
use Rattle.std.specs.Int.{w64, cast_signed}
use Rattle.byteorder.specs.Endian.{big_number}
use Rattle.jc_bytes.specs.Decoder.{IsBig}
use Rattle.jc_bytes.specs.Modified.{IsModified}
use Rattle.jc_exec.specs.declared.hits.ClassHits.{ClassHits}
use Rattle.jc_exec.specs.declared.session.Session.{Session}
pub use Rattle.jc_exec.specs.Packed.{bit}
unfoldable pub use Rattle.jc_exec.specs.Packed.{unpack}

-- what a block says
pub data Block : Type 0 where
  header : Block
  session : Session → Block
  class : ClassHits → Block

-- ---- a header

-- its kind, the magic number, and the version
abbrev pub header_text : List ℕ
header_text = 0x01 ∷ 0xc0 ∷ 0xc0 ∷ 0x10 ∷ 0x07 ∷ []

-- ---- a session: its id, and the times of its start and of its dump

-- a time: a signed number of eight bytes, in two's complement
pub record IsTime (bytes : List ℕ) (t : ℤ) : Type 0 where
  pub size : length bytes ≡ 8
  pub value : cast_signed w64 (big_number 8 bytes) ≡ t

pub record SessionParts : Type 0 where
  pub size : List ℕ
  pub id : List ℕ
  pub start : List ℕ
  pub dump : List ℕ

abbrev pub session_joined : SessionParts → List ℕ
session_joined p = 0x10 ∷ p.size ++ (p.id ++ (p.start ++ p.dump))

pub record SpellsSession (p : SessionParts) (s : Session) : Type 0 where
  pub size : IsBig 2 p.size (length s.id)
  pub id : p.id ≡ s.id
  pub text : IsModified s.id
  pub start : IsTime p.start s.start
  pub dump : IsTime p.dump s.dump

abbrev pub IsSessionBlock : List ℕ → Session → Type 0
IsSessionBlock text s = (p : SessionParts) × (text ≡ session_joined p) × SpellsSession p s

-- ---- a class: its id, its name, how many probes it has, and which of them were hit

-- the bytes have the bits, eight a byte. What pads the last byte may be anything
pub record IsPacked (bytes : List ℕ) (bits : List Bool) : Type 0 where
  pub size : length bytes ≡ (length bits + 7) / 8
  pub unpacked : unpack (length bits) bytes ≡ bits

-- the bytes spell the number, seven bits a byte, the low ones first. A byte from 128 on has one behind it
abbrev pub IsCount : List ℕ → ℕ → Type 0
IsCount [] n = ⊥
IsCount (b ∷ []) n = (b < 128) × (n ≡ b)
IsCount (b ∷ c ∷ bs) n = (128 ≤ b) × (high : ℕ) × (n + 128 ≡ b + 128 * high) × IsCount (c ∷ bs) high

pub record Parts : Type 0 where
  pub id : List ℕ
  pub size : List ℕ
  pub name : List ℕ
  pub count : List ℕ
  pub bits : List ℕ

abbrev pub joined : Parts → List ℕ
joined p = 0x11 ∷ p.id ++ (p.size ++ (p.name ++ (p.count ++ p.bits)))

pub record Spells (p : Parts) (hits : ClassHits) : Type 0 where
  pub id : IsBig 8 p.id hits.id
  pub size : IsBig 2 p.size (length hits.name)
  pub name : p.name ≡ hits.name
  pub text : IsModified hits.name
  pub count : IsCount p.count (length hits.bits)
  pub few : length p.count ≤ 5
  pub small : length hits.bits ≤ 65535
  pub bits : IsPacked p.bits hits.bits

abbrev pub IsClassBlock : List ℕ → ClassHits → Type 0
IsClassBlock text hits = (p : Parts) × (text ≡ joined p) × Spells p hits

-- ---- blocks one after the other

-- the text is one block, and this is what it says
abbrev pub IsBlock : List ℕ → Block → Type 0
IsBlock text header = text ≡ header_text
IsBlock text (session s) = IsSessionBlock text s
IsBlock text (class c) = IsClassBlock text c

-- the text is these blocks in order, and nothing else
abbrev pub AreBlocks : List ℕ → List Block → Type 0
AreBlocks text [] = text ≡ []
AreBlocks text (b ∷ bs) = (front rest : List ℕ) × (text ≡ front ++ rest) × IsBlock front b × AreBlocks rest bs

-- the first block, where there is one, is a header
abbrev pub BeginsWithHeader : List Block → Type 0
BeginsWithHeader [] = ⊤
BeginsWithHeader (header ∷ bs) = ⊤
BeginsWithHeader (session s ∷ bs) = ⊥
BeginsWithHeader (class c ∷ bs) = ⊥

-- the text is execution data, and these are its blocks
pub record Blocks (text : List ℕ) (blocks : List Block) : Type 0 where
  pub begins : BeginsWithHeader blocks
  pub whole : AreBlocks text blocks
