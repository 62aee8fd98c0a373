-- Taking the hits of words: what becomes of a seat's view, and of the set into which hits are put.
use Rattle.std.specs.Prelude.{◌≡◌, ℕ, ◌%◌, ◌<◌, ◌≤◌, ◌⊎◌, ◌↔◌, List, ◌++◌, Bool, true, Contains}
use Rattle.std.specs.Int.{bit_at}
use Rattle.atomic_table.specs.Table.{Me}
use Rattle.jc_programs.specs.Probes.{counts_of, IsHit}
use Rattle.jc_board.specs.Places.{word_at}
use Rattle.jc_board.specs.Rule.{IsProbe}
use Rattle.jc_board.specs.Views.{whole}
use Rattle.jc_dump_board.specs.declared.seat.View.{View}

-- the probe lies in the word
abbrev pub IsIn : (counts : List ℕ) → (word class id : ℕ) → Type 0
IsIn counts word class id = IsProbe counts class id × (word_at counts class id ≡ word)

-- the bit of the probe stands in the word, which has this number
abbrev pub Stands : (counts : List ℕ) → (word n class id : ℕ) → Type 0
Stands counts word n class id = IsIn counts word class id × (bit_at n (id % 64) ≡ 1)

-- A swap of the word with 0 that finds n.
pub record TakesWord {S : Type 0} (counts : List ℕ) (word : ℕ) (before : Me S View) (n : ℕ) (after : Me S View) : Type 0 where
  pub slots : after.1 ≡ before.1
  pub same_hits : after.0.hits ≡ before.0.hits
  pub same_part : after.0.part ≡ before.0.part
  pub same_alone : after.0.alone ≡ before.0.alone
  -- the hits that stood there are added to those that were taken
  pub taken : (found : List (ℕ × ℕ)) × (after.0.taken ≡ before.0.taken ++ found) × ((class id : ℕ) → Contains found (class, id) ↔ Stands counts word n class id)
  -- its pending hits of the word go, and its hits of the word are settled
  pub pending : (class id : ℕ) → Contains after.0.pending (class, id) ↔ (Contains before.0.pending (class, id) × (IsIn counts word class id → ⊥))
  pub settled : (class id : ℕ)
      → Contains after.0.settled (class, id) ↔ (Contains before.0.settled (class, id) ⊎ (Contains before.0.hits (class, id) × IsIn counts word class id))
  pub in_range : (class id : ℕ) → Contains before.0.hits (class, id) ⊎ Contains before.0.pending (class, id) → IsProbe counts class id
  -- with the whole part, what is settled is among what it has taken, and that among its hits
  pub settled_is_taken : before.0.part ≡ whole → (class id : ℕ) → Contains after.0.settled (class, id) → Contains after.0.taken (class, id)
  pub taken_is_hit : before.0.part ≡ whole → (class id : ℕ) → Contains after.0.taken (class, id) → Contains after.0.hits (class, id)
  -- where it is alone, its pending hits of the word stood there, and no others
  pub stood_alone : before.0.alone ≡ true → (class id : ℕ) → IsIn counts word class id → (bit_at n (id % 64) ≡ 1) ↔ Contains before.0.pending (class, id)

-- The hits of the words below one have been taken, and were put into a set.
pub record Taken (counts : List ℕ) (below : ℕ) (was now : View) (into_was into : List (List Bool)) : Type 0 where
  pub same_hits : now.hits ≡ was.hits
  pub same_part : now.part ≡ was.part
  pub same_alone : now.alone ≡ was.alone
  pub same_counts : counts_of into ≡ counts_of into_was
  -- what was put into the set is what was added to the hits that the seat has taken
  pub gained : (found : List (ℕ × ℕ)) × (now.taken ≡ was.taken ++ found)
      × ((class id : ℕ) → IsHit into class id ↔ (IsHit into_was class id ⊎ Contains found (class, id)))
  pub pending : (class id : ℕ) → Contains now.pending (class, id) ↔ (Contains was.pending (class, id) × (below ≤ word_at counts class id))
  pub settled : (class id : ℕ)
      → Contains now.settled (class, id) ↔ (Contains was.settled (class, id) ⊎ (Contains was.hits (class, id) × (word_at counts class id < below)))
  pub in_range : 0 < below → (class id : ℕ) → Contains was.hits (class, id) ⊎ Contains was.pending (class, id) → IsProbe counts class id
  pub settled_is_taken : 0 < below → was.part ≡ whole → (class id : ℕ) → Contains now.settled (class, id) → Contains now.taken (class, id)
  pub taken_is_hit : 0 < below → was.part ≡ whole → (class id : ℕ) → Contains now.taken (class, id) → Contains now.hits (class, id)
  pub alone : was.alone ≡ true → (class id : ℕ)
      → IsHit into class id ↔ (IsHit into_was class id ⊎ (Contains was.pending (class, id) × (word_at counts class id < below)))
