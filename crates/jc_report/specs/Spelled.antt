-- The text that a name spells, as a report shows it.
use Rattle.std.specs.Prelude.{◌≡◌, ◌⊎◌, ℕ, zero, suc, List, [], ◌∷◌, length, Option, Some, None}
use Rattle.std.specs.Prelude.{unwrap_or, option_map, option_and_then, if◌then◌else◌, encode_utf8_all}
use Rattle.std.specs.Char.Utf16.{has_unpaired_surrogate, utf16_lossy_chars}
use Rattle.jc_bytes.specs.Deciding.{no_bytes}
use Rattle.jc_bytes.specs.Modified.{unit_at}
use Rattle.jc_pool.specs.Text.{IsTextOf}

-- The text is the one, in UTF-8, that the name spells in modified UTF-8 (JVM Specification 4.4.7). A name that spells
-- none is shown by its bytes.
abbrev pub IsShown : List ℕ → List ℕ → Type 0
IsShown name text = IsTextOf name (Some text) ⊎ (IsTextOf name None × (text ≡ name))

-- ---- the same as functions

-- the units of 16 bits that the bytes spell, at most so many
abbrev pub more_units : (List ℕ → Option (List ℕ)) → List ℕ → Option (ℕ × List ℕ) → Option (List ℕ)
more_units more bytes None = if no_bytes bytes then Some ([]) else None
more_units more bytes (Some read) = option_map (λ units. read.0 ∷ units) (more read.1)

abbrev pub units_of : ℕ → List ℕ → Option (List ℕ)
units_of zero bytes = if no_bytes bytes then Some ([]) else None
units_of (suc n) bytes = more_units (units_of n) bytes (unit_at bytes)

-- the text that units of UTF-16 spell, where no surrogate is without a partner
abbrev pub text_of_units : List ℕ → Option (List ℕ)
text_of_units units = if has_unpaired_surrogate units then None else Some (encode_utf8_all (utf16_lossy_chars units))

abbrev pub text_of : List ℕ → Option (List ℕ)
text_of bytes = option_and_then text_of_units (units_of (length bytes) bytes)

unfoldable pub shown : List ℕ → List ℕ
shown name = unwrap_or (text_of name) name
