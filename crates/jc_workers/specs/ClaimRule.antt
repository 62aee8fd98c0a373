-- The rule of claims: what their word and the views of all their drawers have to do with each other.
use Rattle.std.specs.Prelude.{◌≡◌, ℕ, ◌+◌, ◌<◌, ◌^◌, List, [], ◌∷◌, length, slice_index}
use Rattle.jc_workers.specs.declared.drawn.Drawn.{Drawn}
use Rattle.jc_workers.specs.Claims.{times, once_below}

-- a number of each view, added up
abbrev pub total : (Drawn → ℕ) → List Drawn → ℕ
total f [] = 0
total f (v ∷ views) = f v + total f views

pub record IsKept (all : ℕ) (words : List ℕ) (views : List Drawn) : Type 0 where
  pub some_word : 0 < length words
  pub fits : all < 2 ^ 64
  -- the word and the budgets of all views add up to the budget of all drawers
  pub budgets : slice_index words 0 + total (λ v. v.budget) views ≡ all
  -- each number below the word is with one view, once, and no other number is with any
  pub once : (x : ℕ) → total (λ v. times x v.numbers) views ≡ once_below x (slice_index words 0)
  pub count : total (λ v. length v.numbers) views ≡ slice_index words 0
