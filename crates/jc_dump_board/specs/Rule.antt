-- The rule of a dump board: what its words and the views of all its seats have to do with each other.
use Rattle.std.specs.Prelude.{◌≡◌, ℕ, ◌+◌, ◌≤◌, ◌⊎◌, List, [], ◌∷◌, length, Contains, true}
use mathlib.Core.Option.{some}
use lib.ListN.{get_elem?}
use Rattle.jc_programs.specs.Probes.{InRange}
use Rattle.jc_board.specs.Places.{words_of}
use Rattle.jc_board.specs.Rule.{IsProbe, IsSet}
use Rattle.jc_board.specs.Views.{whole}
use Rattle.jc_dump_board.specs.declared.seat.View.{View}

-- some view has the probe in this list of its own
abbrev pub AnyHas : (View → List (ℕ × ℕ)) → List View → (class id : ℕ) → Type 0
AnyHas list views class id = (k : ℕ) × (v : View) × (get_elem? views k ≡ some v) × Contains (list v) (class, id)

-- the parts of all views, added up
abbrev pub sum_of_parts : List View → ℕ
sum_of_parts [] = 0
sum_of_parts (v ∷ views) = v.part + sum_of_parts views

-- the view has the whole part, and the bits that are set are exactly its pending hits
pub record IsAlone (counts words : List ℕ) (v : View) : Type 0 where
  pub all : v.part ≡ whole
  pub set_is_pending : (class id : ℕ) → InRange counts class id → IsSet counts words class id → Contains v.pending (class, id)
  pub pending_is_set : (class id : ℕ) → Contains v.pending (class, id) → IsSet counts words class id

pub record IsKept (counts words : List ℕ) (views : List View) : Type 0 where
  -- each probe has its word
  pub enough : words_of counts ≤ length words
  -- only probes are hit
  pub in_range : (class id : ℕ) → AnyHas (λ v. v.hits) views class id → IsProbe counts class id
  pub pending_in_range : (class id : ℕ) → AnyHas (λ v. v.pending) views class id → IsProbe counts class id
  -- a bit that is set, and what some view has taken, is in some view's hits
  pub set_is_hit : (class id : ℕ) → InRange counts class id → IsSet counts words class id → AnyHas (λ v. v.hits) views class id
  pub taken_is_hit : (class id : ℕ) → AnyHas (λ v. v.taken) views class id → AnyHas (λ v. v.hits) views class id
  -- each view's hit is a set bit, or some view has taken it
  pub hit_is_set_or_taken : (class id : ℕ) → AnyHas (λ v. v.hits) views class id → IsSet counts words class id ⊎ AnyHas (λ v. v.taken) views class id
  -- each settled hit is taken by some view
  pub settled_is_taken : (class id : ℕ) → AnyHas (λ v. v.settled) views class id → AnyHas (λ v. v.taken) views class id
  -- a view with no part has no hit, has taken none, and has none settled
  pub spent : (k : ℕ) (v : View) → get_elem? views k ≡ some v → v.part ≡ 0 → (v.hits ≡ []) × (v.taken ≡ []) × (v.settled ≡ [])
  pub all_parts : sum_of_parts views ≡ whole
  pub alone : (k : ℕ) (v : View) → get_elem? views k ≡ some v → v.alone ≡ true → IsAlone counts words v
