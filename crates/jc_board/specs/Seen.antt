-- A board and a seat, as contracts see them.
use Rattle.std.specs.Prelude.{ℕ, List}
use Rattle.atomic_table.specs.Seated.{TableId}

-- the number of probes of each class, and which board it is
pub record BoardSeen : Type 0 where
  pub counts : List ℕ
  pub table : TableId

-- of which board it is, the probes that it has hit, by class and id, and its part
pub record SeatSeen : Type 0 where
  pub table : TableId
  pub hits : List (ℕ × ℕ)
  pub part : ℕ
