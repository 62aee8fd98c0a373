-- How a region's blocks lie in its words: one behind the other, from the first word on. Where each of them ends is kept
-- in the order in which they were made.
use Rattle.std.specs.Prelude.{◌≡◌, ℕ, ◌-◌, ◌≤◌, ◌<◌, ◌^◌, List, [], ◌∷◌, length, take, drop}
use Rattle.jc_region.specs.Memory.{RegionMemory, allocation_of}
use Rattle.jc_region.specs.Blocks.{Blocks}
use Rattle.jc_region.specs.declared.region.Region.TheInside.{Inside}

-- the lengths of blocks that end there, of which the first begins at a place
abbrev pub lengths_from : ℕ → List ℕ → List ℕ
lengths_from at [] = []
lengths_from at (end ∷ ends) = (end - at) ∷ lengths_from end ends

-- words in blocks of these lengths
abbrev pub cut : List ℕ → List ℕ → List (List ℕ)
cut [] words = []
cut (n ∷ ns) words = take n words ∷ cut ns (drop n words)

-- blocks that end there, of which the first begins at one place, end at the other; none is empty
abbrev pub AreEnds : ℕ → List ℕ → ℕ → Type 0
AreEnds at [] last = at ≡ last
AreEnds at (end ∷ ends) last = (at < end) × AreEnds end ends last

abbrev pub used_ends : Inside → List ℕ
used_ends r = take r.count r.ends.items

abbrev pub memory_of : Inside → RegionMemory
memory_of r = record { words = allocation_of r.words; ends = allocation_of r.ends }

abbrev pub blocks_of : Inside → Blocks
blocks_of r = record { most = length r.words.items; blocks = cut (lengths_from 0 (used_ends r)) r.words.items; memory = memory_of r }

pub record IsSound (r : Inside) : Type 0 where
  pub within : r.used ≤ length r.words.items
  pub as_many : length r.ends.items ≡ length r.words.items
  pub few : length r.words.items < 2 ^ 32
  pub counted : r.count ≤ length r.ends.items
  pub ends : AreEnds 0 (used_ends r) r.used
