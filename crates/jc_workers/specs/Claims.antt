-- Claims and drawers, as contracts see them, and what the steps of a drawer make of its view.
use Rattle.std.specs.Prelude.{◌≡◌, ℕ, ◌+◌, ◌-◌, ◌<◌, List, [], ◌∷◌, ◌++◌, cond, ◌==◌, nat_lt, Contains}
use Rattle.atomic_table.specs.Seated.{TableId}
use Rattle.atomic_table.specs.Table.{Me}
use Rattle.jc_workers.specs.declared.drawn.Drawn.{Drawn}

-- which claims, and how many numbers all drawers together may draw
pub record ClaimsSeen : Type 0 where
  pub table : TableId
  pub budget : ℕ

-- of which claims, the numbers that were drawn, and how many may still be
pub record DrawerSeen : Type 0 where
  pub table : TableId
  pub numbers : List ℕ
  pub budget : ℕ

-- how often x stands in the list
abbrev pub times : ℕ → List ℕ → ℕ
times x [] = 0
times x (y ∷ ys) = cond (y == x) 1 0 + times x ys

-- 1 where x is below n, else 0
abbrev pub once_below : ℕ → ℕ → ℕ
once_below x n = cond (nat_lt x n) 1 0

-- the numbers are exactly those below n, each once
abbrev pub AreThoseBelow : ℕ → List ℕ → Type 0
AreThoseBelow n numbers = (x : ℕ) → times x numbers ≡ once_below x n

abbrev pub drawn : List ℕ → ℕ → Drawn
drawn numbers budget = record { numbers = numbers; budget = budget }

-- n is drawn, and it is above the numbers that the view had
pub record Draws {S : Type 0} (before : Me S Drawn) (n : ℕ) (after : Me S Drawn) : Type 0 where
  pub gained : after ≡ (drawn (before.0.numbers ++ n ∷ []) (before.0.budget - 1), before.1)
  pub above : (y : ℕ) → Contains before.0.numbers y → y < n

-- what is left where a budget is given away
abbrev pub without_budget : ℕ → Drawn → Drawn
without_budget budget v = drawn v.numbers (v.budget - budget)

-- the numbers and the budgets of both
abbrev pub joined : Drawn → Drawn → Drawn
joined v w = drawn (v.numbers ++ w.numbers) (v.budget + w.budget)
