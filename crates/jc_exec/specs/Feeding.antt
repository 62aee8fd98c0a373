-- What is kept of a file of execution data that is fed in pieces.
use Rattle.std.specs.Prelude.{◌≡◌, ⊤, ℕ, ◌+◌, ◌<◌, ◌≤◌, List, ◌++◌, length}
use Rattle.std.specs.List.{AllByRecursion}
use Rattle.jc_bytes.specs.declared.fail.Fail.{Fail}
use Rattle.jc_bytes.specs.declared.fail.Fail.TheVariants as fails
use Rattle.jc_exec.specs.declared.waiting.Waiting.{Waiting}
use Rattle.jc_exec.specs.declared.waiting.State.{State}
use Rattle.jc_exec.specs.declared.waiting.State.TheVariants as states
use Rattle.jc_exec.specs.declared.refusal.ExecRefusal.{ExecRefusal}
use Rattle.jc_exec.specs.Adding.{Held, held_store}
use Rattle.jc_exec.specs.Answers.{why_of}
use Rattle.jc_exec.specs.Format.{Block, IsBlock, Blocks}
use Rattle.jc_exec.specs.Refusing.{blocks_of, HasOtherHeader, FirstRefusal}
use Rattle.jc_exec.specs.Store.{Store, IsWritable, Keyed}
use Rattle.jc_exec.specs.Union.{IsUnion}

-- the length of the longest block: a class with a name of 65,535 bytes, a count of five bytes, and 65,535 probes
abbrev pub most_block : ℕ
most_block = 73743

-- the store with the blocks that were taken, and the bytes behind them; or why a block was refused
pub data Kept : Type 0 where
  waiting : Store → List ℕ → Kept
  refused : ExecRefusal → Kept

-- how many bytes were fed, and what is kept of them
pub record Feed : Type 0 where
  pub length : ℕ
  pub kept : Kept

-- neither a whole block nor a whole header of another version stands in front
pub record NoneInFront (text : List ℕ) : Type 0 where
  pub none : (b : Block) (front more : List ℕ) → text ≡ front ++ more → IsBlock front b → ⊥
  pub known : (found : ℕ) → HasOtherHeader text found → ⊥

-- the bytes are whole blocks, which have this union with the store before, and then the rest, in front of which no whole block stands
pub record Waits (before : Store) (bytes : List ℕ) (store : Store) (rest : List ℕ) : Type 0 where
  pub read : List Block
  pub taken : List ℕ
  pub parts : bytes ≡ taken ++ rest
  pub blocks : Blocks taken read
  pub union : IsUnion (blocks_of before ++ read) store
  pub unfinished : NoneInFront rest

-- what is kept of the bytes over the store before. A refusal is that of the bytes, whatever follows them
abbrev pub StandsTo : Kept → Store → List ℕ → Type 0
StandsTo (waiting store rest) before bytes = Waits before bytes store rest
StandsTo (refused why) before bytes = (more : List ℕ) → FirstRefusal before (bytes ++ more) (why_of why)

-- the feed is one of these bytes into the store before
pub record Feeds (f : Feed) (before : Store) (bytes : List ℕ) : Type 0 where
  pub size : f.length ≡ length bytes
  pub stands : StandsTo f.kept before bytes

-- the bytes are blocks, which have this union with the store before
pub record Finished (before : Store) (bytes : List ℕ) (store : Store) : Type 0 where
  pub read : List Block
  pub blocks : Blocks bytes read
  pub union : IsUnion (blocks_of before ++ read) store

-- ---- what a feed keeps

-- how many bytes are kept of a block that isn't whole
abbrev pub rest_of : Kept → ℕ
rest_of (waiting store rest) = length rest
rest_of (refused why) = 0

-- so many bytes stand behind the last whole block
pub record StandBehindBlocks (bytes : List ℕ) (n : ℕ) : Type 0 where
  pub read : List Block
  pub taken : List ℕ
  pub rest : List ℕ
  pub parts : bytes ≡ taken ++ rest
  pub blocks : Blocks taken read
  pub unfinished : (b : Block) (front more : List ℕ) → rest ≡ front ++ more → IsBlock front b → ⊥
  pub size : length rest ≡ n

-- memory was not asked for
abbrev pub IsSaid : Fail ExecRefusal → Type 0
IsSaid fails.Memory = ⊥
IsSaid (fails.Said why) = ⊤

-- ---- the values of the fields

abbrev pub kept_of : {T : Type 0} → (T → Held) → State T → Kept
kept_of held (states.Waiting o) = waiting (held_store (held o.table)) o.rest.items
kept_of held (states.Refused why) = refused why

-- what is kept fits the format, and no more than the bytes that were fed and less than the longest block
abbrev pub IsSound : {T : Type 0} → (T → Held) → State T → ℕ → Type 0
IsSound held (states.Waiting o) fed = AllByRecursion IsWritable (held o.table).sessions × Keyed (held o.table).records
    × (length o.rest.items ≤ fed) × (length o.rest.items < most_block)
IsSound held (states.Refused why) fed = ⊤

-- what was kept of some bytes, the last of which begin at the offset, became what is kept of these and the piece
abbrev pub GoesOn : {T : Type 0} → (T → Held) → Waiting T → ℕ → List ℕ → State T → Type 0
GoesOn held o offset piece later = (before : Store) (bytes : List ℕ)
    → Waits before bytes (held_store (held o.table)) o.rest.items
    → offset + length o.rest.items ≡ length bytes → StandsTo (kept_of held later) before (bytes ++ piece)

-- the feed of so many bytes, of which this is kept
abbrev pub feed_of : {T : Type 0} → (T → Held) → ℕ → State T → Feed
feed_of held fed state = record { length = fed; kept = kept_of held state }
