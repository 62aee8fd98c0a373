-- Blocks of words, each known by the number of words in the blocks before it.
use Rattle.std.specs.Prelude.{◌≡◌, ℕ, zero, suc, ◌+◌, ◌-◌, List, [], ◌∷◌, ◌++◌, length, take, replicate, slice_get, slice_set, slice_index_or, IsSomeAnd}
use Rattle.jc_region.specs.Memory.{RegionMemory}

-- so many words in blocks at most, the blocks in the order in which they were made, and the memory in which all lies
pub record Blocks : Type 0 where
  pub most : ℕ
  pub blocks : List (List ℕ)
  pub memory : RegionMemory

-- how many words the blocks have together
abbrev pub words_in : List (List ℕ) → ℕ
words_in [] = 0
words_in (block ∷ blocks) = length block + words_in blocks

-- block k begins behind so many words, and has so many
pub record IsBlock (blocks : List (List ℕ)) (at len k : ℕ) : Type 0 where
  pub before : words_in (take k blocks) ≡ at
  pub there : IsSomeAnd (slice_get blocks k) (λ block. length block ≡ len)

-- there is a block of so many words that begins behind so many
abbrev pub IsLive : List (List ℕ) → ℕ → ℕ → Type 0
IsLive blocks at len = (k : ℕ) × IsBlock blocks at len k

-- how many blocks begin before a place; so it is the number of the block that begins there
abbrev pub number_at : List (List ℕ) → ℕ → ℕ
number_at [] at = 0
number_at (block ∷ blocks) zero = 0
number_at (block ∷ blocks) (suc at) = suc (number_at blocks (suc at - length block))

-- the words of the block that begins at a place
abbrev pub words_at : List (List ℕ) → ℕ → List ℕ
words_at blocks at = slice_index_or blocks (number_at blocks at) []

-- one word of the block that begins at a place is another, and nothing else is
abbrev pub with_word : Blocks → ℕ → ℕ → ℕ → Blocks
with_word region at i word =
    record region { blocks = slice_set region.blocks (number_at region.blocks at) (slice_set (words_at region.blocks at) i word) }

-- one block more, behind the others, of zeros
abbrev pub with_block : Blocks → ℕ → Blocks
with_block region len = record region { blocks = region.blocks ++ replicate len 0 ∷ [] }
