-- A seat of a dump board, as contracts see it.
use Rattle.std.specs.Prelude.{ℕ, List, Bool}
use Rattle.atomic_table.specs.Seated.{TableId}

-- Of which board it is; the probes that it has hit, those that it has taken, those that it has hit and not taken since, and
-- those of its hits that are known to be taken, by class and id; its part; and whether no other seat ever had a part.
pub record DumpSeatSeen : Type 0 where
  pub table : TableId
  pub hits : List (ℕ × ℕ)
  pub taken : List (ℕ × ℕ)
  pub pending : List (ℕ × ℕ)
  pub settled : List (ℕ × ℕ)
  pub part : ℕ
  pub alone : Bool
