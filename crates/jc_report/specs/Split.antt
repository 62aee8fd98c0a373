-- A text in front of the last place of a byte, and behind it.
use Rattle.std.specs.Prelude.{◌≡◌, ◌≢◌, ℕ, ◌==◌, List, [], ◌∷◌, ◌++◌, Option, Some, None, All}
use Rattle.std.specs.Prelude.{if◌then◌else◌}

-- the byte stands between front and back, and not in back
pub record IsSplitAtLast (byte : ℕ) (text front back : List ℕ) : Type 0 where
  pub parts : text ≡ front ++ byte ∷ back
  pub last : All (λ b. b ≢ byte) back

abbrev pub with_first : ℕ → ℕ → List ℕ → Option (List ℕ × List ℕ) → Option (List ℕ × List ℕ)
with_first byte b rest (Some parts) = Some (b ∷ parts.0, parts.1)
with_first byte b rest None = if b == byte then Some ([], rest) else None

-- what stands in front of the last such byte and behind it, where there is one
unfoldable pub split_at_last : ℕ → List ℕ → Option (List ℕ × List ℕ)
split_at_last byte [] = None
split_at_last byte (b ∷ rest) = with_first byte b rest (split_at_last byte rest)

-- what stands in front of the last such byte, or nothing
abbrev pub front_of : Option (List ℕ × List ℕ) → List ℕ
front_of None = []
front_of (Some parts) = parts.0

-- what stands behind the last such byte, or the whole text
abbrev pub back_of : List ℕ → Option (List ℕ × List ℕ) → List ℕ
back_of text None = text
back_of text (Some parts) = parts.1
