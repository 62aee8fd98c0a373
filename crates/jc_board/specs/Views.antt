-- The views of seats, and what the steps of a seat make of them.
use Rattle.std.specs.Prelude.{◌≡◌, ◌≢◌, ℕ, ◌+◌, ◌-◌, ◌%◌, List, [], ◌∷◌, ◌++◌, Contains}
use Rattle.std.specs.Int.{bit_at}
use Rattle.atomic_table.specs.Table.{Me}
use Rattle.jc_board.specs.declared.seat.View.{View}

-- the part of a seat that has no other beside it
abbrev pub whole : ℕ
whole = 65536

abbrev pub view : List (ℕ × ℕ) → ℕ → View
view hits part = record { hits = hits; part = part }

-- one hit more
abbrev pub with_hit : View → (class id : ℕ) → View
with_hit v class id = view (v.hits ++ (class, id) ∷ []) v.part

-- what is left where a part is given away
abbrev pub without_part : ℕ → View → View
without_part part v = view v.hits (v.part - part)

-- the hits and the parts of both
abbrev pub joined : View → View → View
joined v w = view (v.hits ++ w.hits) (v.part + w.part)

-- A look at the word of a probe that finds this number.
pub record Peeks {S : Type 0} (class id : ℕ) (before : Me S View) (found : ℕ) (after : Me S View) : Type 0 where
  -- where the bit of the probe is set, the view has the hit from then on
  pub set : bit_at found (id % 64) ≡ 1 → after ≡ (with_hit before.0 class id, before.1)
  pub unset : bit_at found (id % 64) ≢ 1 → after ≡ before
  -- it is set where the view had the hit, and only there where the part is the whole
  pub had : Contains before.0.hits (class, id) → bit_at found (id % 64) ≡ 1
  pub alone : before.0.part ≡ whole → bit_at found (id % 64) ≡ 1 → Contains before.0.hits (class, id)
