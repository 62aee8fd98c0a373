-- The text that modified UTF-8 spells (JVM Specification 4.4.7).
use Rattle.std.specs.Prelude.{◌≡◌, ℕ, ◌<◌, ◌^◌, List, Option, Some, None}
use Rattle.std.specs.Char.{IsScalar}
use Rattle.std.specs.Char.Escape.{encode_utf16}
use Rattle.std.specs.List.{AllByRecursion, flat_map}
use Rattle.std.specs.Str.{encode_utf8_all}
use Rattle.jc_bytes.specs.Modified.{unit_bytes}

-- the bytes spell these units of 16 bits
pub record SpellsUnits (bytes units : List ℕ) : Type 0 where
  pub small : AllByRecursion (λ u. u < 2 ^ 16) units
  pub parts : bytes ≡ flat_map unit_bytes units

-- The bytes spell these characters, each in the one or two units of its UTF-16. A character is a
-- Unicode scalar value, and so no surrogate.
pub record SpellsText (bytes chars : List ℕ) : Type 0 where
  pub scalars : AllByRecursion IsScalar chars
  pub parts : bytes ≡ flat_map unit_bytes (flat_map encode_utf16 chars)

-- the text, in UTF-8, is the one that the bytes spell; there is none where they spell none
abbrev pub IsTextOf : List ℕ → Option (List ℕ) → Type 0
IsTextOf bytes None = (chars : List ℕ) → SpellsText bytes chars → ⊥
IsTextOf bytes (Some text) = (chars : List ℕ) × SpellsText bytes chars × (text ≡ encode_utf8_all chars)

-- the units are those that the bytes spell; there are none where they spell none
abbrev pub AreUnitsOf : List ℕ → Option (List ℕ) → Type 0
AreUnitsOf bytes None = (units : List ℕ) → SpellsUnits bytes units → ⊥
AreUnitsOf bytes (Some units) = SpellsUnits bytes units
