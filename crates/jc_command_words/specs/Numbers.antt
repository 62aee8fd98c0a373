-- Decimal numbers without sign and leading zero.
use Rattle.std.specs.Prelude.{◌≡◌, ◌≤◌, ◌+◌, ◌-◌, ◌*◌, ℕ, Bool, false, not, ◌&&◌, [], ◌∷◌, Option, Some, None, nat_eq, nat_le, IsTrue, if◌then◌else◌}
use Rattle.std.specs.List.{fold, list_all}
use Rattle.jc_bytes.specs.Digits.{is_digit}
use Rattle.jc_command_words.specs.Words.{Word}

abbrev pub one_more_digit : ℕ → ℕ → ℕ
one_more_digit n b = n * 10 + (b - 48)

-- digits, of which the first is not 0
abbrev pub is_decimal : Word → Bool
is_decimal [] = false
is_decimal (b ∷ bytes) = not (nat_eq b 48) && list_all is_digit (b ∷ bytes)

abbrev pub decimal_value : Word → ℕ
decimal_value text = fold one_more_digit 0 text

-- the text is the number, from 1 to the most
pub record IsNumber (most : ℕ) (text : Word) (n : ℕ) : Type 0 where
  pub decimal : IsTrue (is_decimal text)
  pub value : n ≡ decimal_value text
  pub small : n ≤ most

-- ---- decided digit by digit

abbrev pub digits_up_to : ℕ → ℕ → Word → Option ℕ
digits_up_to most n [] = Some n
digits_up_to most n (b ∷ bytes) =
    if is_digit b && nat_le (one_more_digit n b) most then digits_up_to most (one_more_digit n b) bytes else None

abbrev pub number_up_to : ℕ → Word → Option ℕ
number_up_to most [] = None
number_up_to most (b ∷ bytes) = if nat_eq b 48 then None else digits_up_to most 0 (b ∷ bytes)
