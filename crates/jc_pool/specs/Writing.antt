-- What the writing of a pool appends, part by part.
use Rattle.std.specs.Prelude.{◌≡◌, ℕ, List, [], ◌∷◌, ◌++◌, Option, Some, None}
use Rattle.jc_pool.specs.declared.entry.Entry.{Entry}
use Rattle.jc_pool.specs.Pool.{IsSmall}
use Rattle.jc_pool.specs.EntryFormat.{IsEntry}

-- the text of what stands at a place
abbrev pub SpellsSlot : List ℕ → Option Entry → Type 0
SpellsSlot text None = text ≡ []
SpellsSlot text (Some e) = IsEntry text e

-- the texts of what stands at these places, in order
abbrev pub SpellsSlots : List ℕ → List (Option Entry) → Type 0
SpellsSlots text [] = text ≡ []
SpellsSlots text (slot ∷ rest) = (front back : List ℕ) × (text ≡ front ++ back) × SpellsSlot front slot × SpellsSlots back rest

-- what stands at a place can be written
abbrev pub IsSmallSlot : Option Entry → Type 0
IsSmallSlot None = Unit {0}
IsSmallSlot (Some e) = IsSmall e

abbrev pub AreSmall : List (Option Entry) → Type 0
AreSmall [] = Unit {0}
AreSmall (slot ∷ rest) = IsSmallSlot slot × AreSmall rest
