-- The rule of a board: what its words and the views of all its seats have to do with each other.
use Rattle.std.specs.Prelude.{◌≡◌, ℕ, ◌+◌, ◌/◌, ◌%◌, ◌^◌, ◌<◌, ◌≤◌, List, [], ◌∷◌, length, slice_index, Contains}
use mathlib.Core.Option.{some}
use lib.ListN.{get_elem?}
use Rattle.std.specs.Int.{bit_at}
use Rattle.jc_programs.specs.Probes.{InRange}
use Rattle.jc_board.specs.Places.{words_of, word_at}
use Rattle.jc_board.specs.declared.seat.View.{View}
use Rattle.jc_board.specs.Views.{whole}

-- a probe of the classes that a seat can name, since it names classes by numbers of 32 bits
abbrev pub IsProbe : (counts : List ℕ) → (class id : ℕ) → Type 0
IsProbe counts class id = InRange counts class id × (class < 2 ^ 32)

-- the bit of a probe is set, of a class whose words begin at this one
abbrev pub IsSetFrom : List ℕ → (first id : ℕ) → Type 0
IsSetFrom words first id = bit_at (slice_index words (first + id / 64)) (id % 64) ≡ 1

-- the bit of the probe is set
abbrev pub IsSet : (counts words : List ℕ) → (class id : ℕ) → Type 0
IsSet counts words class id = bit_at (slice_index words (word_at counts class id)) (id % 64) ≡ 1

-- some view has the hit
abbrev pub AnyHas : List View → (class id : ℕ) → Type 0
AnyHas views class id = (k : ℕ) × (v : View) × (get_elem? views k ≡ some v) × Contains v.hits (class, id)

-- the parts of all views, added up
abbrev pub sum_of_parts : List View → ℕ
sum_of_parts [] = 0
sum_of_parts (v ∷ views) = v.part + sum_of_parts views

pub record IsKept (counts words : List ℕ) (views : List View) : Type 0 where
  -- each probe has its word
  pub enough : words_of counts ≤ length words
  -- only probes are hit
  pub in_range : (class id : ℕ) → AnyHas views class id → IsProbe counts class id
  -- a bit is set exactly where some view has its hit
  pub set_only_hit : (class id : ℕ) → InRange counts class id → IsSet counts words class id → AnyHas views class id
  pub hit_is_set : (class id : ℕ) → AnyHas views class id → IsSet counts words class id
  -- a view with no part has no hit
  pub spent : (k : ℕ) (v : View) → get_elem? views k ≡ some v → v.part ≡ 0 → v.hits ≡ []
  pub all_parts : sum_of_parts views ≡ whole
