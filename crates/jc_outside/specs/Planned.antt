-- Calls that are planned to fail.
use Rattle.std.specs.Prelude.{ℕ, ◌+◌, ◌/◌, ◌==◌, Bool, List, length, take, min}
use Rattle.std.specs.List.{list_any}

-- the numbers of the calls that are to fail, from 1, and how many were made
pub record Planned : Type 0 where
  pub failing : List ℕ
  pub made : ℕ

-- one more call was made. The count stays at its last value
abbrev pub count_after : ℕ → ℕ
count_after made = min (made + 1) 18446744073709551615

abbrev pub next_call : Planned → Planned
next_call p = record { failing = p.failing; made = count_after p.made }

-- the next call is to fail
unfoldable pub is_planned : Planned → Bool
is_planned p = list_any (λ number. number == count_after p.made) p.failing

-- what a call that is planned to fail writes of its bytes
abbrev pub first_half : List ℕ → List ℕ
first_half bytes = take (length bytes / 2) bytes
