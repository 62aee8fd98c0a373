-- The lines of a run plan, their words, and the numbers among these.
use Rattle.std.specs.Prelude.{ℕ, ℤ, pos, ◌+◌, ◌-◌, ◌*◌, Bool, true, false, ◌==◌, List, [], ◌∷◌, filter, Option, Some, None, neg_ℤ, nat_le, if◌then◌else◌}
use Rattle.std.specs.List.{slice_split}
use Rattle.std.specs.Str.Lines.{lines}
use Rattle.jc_bytes.specs.Digits.{is_digit}

abbrev pub is_some_text : List ℕ → Bool
is_some_text [] = false
is_some_text (b ∷ bytes) = true

-- ---- lines and words

-- the parts of a text between the places of a byte: one more than there are places
abbrev pub parts_of : ℕ → List ℕ → List (List ℕ)
parts_of mark text = slice_split (λ b. b == mark) text

-- Lines end with LF, and the last may lack it. A CR before the LF is dropped.
abbrev pub lines_of : List ℕ → List (List ℕ)
lines_of text = lines text

-- what one or more spaces part; spaces at the ends of a line part nothing
abbrev pub words_of : List ℕ → List (List ℕ)
words_of line = filter is_some_text (parts_of 32 line)

-- a part that is no word is dropped
abbrev pub with_part : List ℕ → List (List ℕ) → List (List ℕ)
with_part part words = if is_some_text part then part ∷ words else words

-- a line that is looked at: its number from 1, and its words
pub record Line : Type 0 where
  pub number : ℕ
  pub words : List (List ℕ)

abbrev pub is_comment : List ℕ → Bool
is_comment [] = false
is_comment (b ∷ bytes) = b == 35

-- no word, or a first word that begins with `#`
abbrev pub is_skipped : List (List ℕ) → Bool
is_skipped [] = true
is_skipped (word ∷ words) = is_comment word

abbrev pub line_before : ℕ → List (List ℕ) → List Line → List Line
line_before number words lines = if is_skipped words then lines else record { number = number; words = words } ∷ lines

-- the lines that aren't skipped, from one with this number on
abbrev pub numbered_from : ℕ → List (List ℕ) → List Line
numbered_from number [] = []
numbered_from number (line ∷ lines) = line_before number (words_of line) (numbered_from (number + 1) lines)

abbrev pub numbered_lines : List ℕ → List Line
numbered_lines text = numbered_from 1 (lines_of text)

-- ---- numbers

-- the number that decimal digits spell behind those of this number, if there is nothing but digits
abbrev pub decimal_behind : ℕ → List ℕ → Option ℕ
decimal_behind n [] = Some n
decimal_behind n (b ∷ bytes) = if is_digit b then decimal_behind (n * 10 + (b - 48)) bytes else None

-- one or more decimal digits, whatever zeros stand in front
abbrev pub decimal_in : List ℕ → Option ℕ
decimal_in [] = None
decimal_in (b ∷ bytes) = decimal_behind 0 (b ∷ bytes)

abbrev pub up_to : ℕ → Option ℕ → Option ℕ
up_to most None = None
up_to most (Some n) = if nat_le n most then Some n else None

-- at most so much
abbrev pub decimal_up_to : ℕ → List ℕ → Option ℕ
decimal_up_to most bytes = up_to most (decimal_in bytes)

abbrev pub negative_of : Option ℕ → Option ℤ
negative_of None = None
negative_of (Some n) = Some (neg_ℤ (pos n))

abbrev pub positive_of : Option ℕ → Option ℤ
positive_of None = None
positive_of (Some n) = Some (pos n)

-- a number of 64 bits with a sign, `-` in front of it where it is negative
abbrev pub signed_in : List ℕ → Option ℤ
signed_in [] = None
signed_in (b ∷ bytes) =
    if b == 45 then negative_of (decimal_up_to 9223372036854775808 bytes)
    else positive_of (decimal_up_to 9223372036854775807 (b ∷ bytes))
