-- Where class ids stand in the index of their places: in one of the slots of their window, or in a tree.
use Rattle.std.specs.Prelude.{◌≡◌, ◌≢◌, ◌⊎◌, ℕ, ◌+◌, ◌-◌, ◌%◌, ◌<◌, ◌^◌, List, [], ◌∷◌, length, take, map, nat_eq, slice_index, if◌then◌else◌, Some}
use Rattle.std.specs.Ordering.{nat_cmp}
use Rattle.std.specs.BTreeMap.{BTreeMap, get}
use Rattle.jc_exec.specs.declared.hits.ClassHits.{ClassHits}
use Rattle.jc_exec.specs.declared.ids.Met.{Met}
use Rattle.jc_exec.specs.declared.ids.Met.TheVariants.{Found, Missing, Full}

-- in how many slots an id is looked for
abbrev pub window : ℕ
window = 16

-- the first of them
abbrev pub home : ℕ → ℕ → ℕ
home id slots = id % (slots - window)

-- the first n slots from here on are taken
abbrev pub AreTaken : List ℕ → ℕ → ℕ → Type 0
AreTaken slots from n = (j : ℕ) → j < n → slice_index slots (from + j) ≢ 0

-- a slot of the window that begins here has the place and 1, and those in front of it are taken
pub record InWindow (slots : List ℕ) (from place : ℕ) : Type 0 where
  pub at : ℕ
  pub within : at < window
  pub is : slice_index slots (from + at) ≡ place + 1
  pub front : AreTaken slots from at

-- the whole window is taken, and the tree has the place of the id
pub record InTree (slots : List ℕ) (others : BTreeMap ℕ ℕ) (from id place : ℕ) : Type 0 where
  pub taken : AreTaken slots from window
  pub is : get nat_cmp others id ≡ Some place

-- the place of the id is found
abbrev pub Reaches : List ℕ → BTreeMap ℕ ℕ → ℕ → ℕ → Type 0
Reaches slots others id place = InWindow slots (home id (length slots)) place ⊎ InTree slots others (home id (length slots)) id place

-- the places of all of the first n ids are found
abbrev pub ReachesAll : List ℕ → BTreeMap ℕ ℕ → List ℕ → ℕ → Type 0
ReachesAll slots others ids n = (k : ℕ) → k < n → Reaches slots others (slice_index ids k) k

-- no id stands at two places
abbrev pub AreApart : List ℕ → Type 0
AreApart ids = (i j : ℕ) → i < length ids → j < length ids → slice_index ids i ≡ slice_index ids j → i ≡ j

-- no slot of the first n from here on has the place of the id
abbrev pub HaveNone : List ℕ → List ℕ → ℕ → ℕ → ℕ → Type 0
HaveNone ids slots id from n = (j place : ℕ) → j < n → slice_index slots (from + j) ≡ place + 1 → place < length ids → slice_index ids place ≢ id

-- what looking for an id in its window gives
abbrev pub Looks : Met → List ℕ → List ℕ → ℕ → Type 0
Looks (Found place) ids slots id = (place < length ids) × (slice_index ids place ≡ id)
Looks Missing ids slots id = (at : ℕ) × (at < window) × (slice_index slots (home id (length slots) + at) ≡ 0) × HaveNone ids slots id (home id (length slots)) at
Looks Full ids slots id = HaveNone ids slots id (home id (length slots)) window

-- the first slot of the window that is free
pub record IsFree (slots : List ℕ) (id slot : ℕ) : Type 0 where
  pub at : ℕ
  pub within : at < window
  pub is : slot ≡ home id (length slots) + at
  pub inside : slot < length slots
  pub free : slice_index slots slot ≡ 0
  pub front : AreTaken slots (home id (length slots)) at

-- each id is found at its place
pub record AreIndexed (ids slots : List ℕ) (others : BTreeMap ℕ ℕ) : Type 0 where
  pub room : 0 < length ids → window < length slots
  pub reaches : ReachesAll slots others ids (length ids)
  pub apart : AreApart ids
  pub few : length ids < 2 ^ 32

-- the ids with one more behind them, unless it is there
abbrev pub with_id : List ℕ → ℕ → List ℕ
with_id [] id = id ∷ []
with_id (x ∷ ids) id = if nat_eq id x then x ∷ ids else x ∷ with_id ids id

-- the ids with those of these records behind them, each once
abbrev pub ids_with : List ℕ → List ClassHits → List ℕ
ids_with ids [] = ids
ids_with ids (c ∷ cs) = ids_with (with_id ids c.id) cs

-- the ids begin with those of the records
abbrev pub IsFront : List ℕ → List ClassHits → Type 0
IsFront ids classes = take (length classes) ids ≡ map (λ c. c.id) classes

-- the first record of the id stands at the place
pub record IsPlaceOf (classes : List ClassHits) (id place : ℕ) : Type 0 where
  pub within : place < length classes
  pub is : slice_index (map (λ c. c.id) classes) place ≡ id
  pub front : (j : ℕ) → j < place → slice_index (map (λ c. c.id) classes) j ≢ id
