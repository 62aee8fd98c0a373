-- What code that knows only that it hits probes from a seat can have done to the seat.
use Rattle.std.specs.Prelude.{◌≡◌, ℕ, List, ◌++◌, drop, length, Contains}
use Rattle.jc_dump_board.specs.Seen.{DumpSeatSeen}

-- the pending hits of a seat are among its hits
abbrev pub PendingAreHits : DumpSeatSeen → Type 0
PendingAreHits seat = (class id : ℕ) → Contains seat.pending (class, id) → Contains seat.hits (class, id)

-- what was hit since
abbrev pub hit_since : (was now : DumpSeatSeen) → List (ℕ × ℕ)
hit_since was now = drop (length was.hits) now.hits

-- The seat has hit, and nothing else: what was hit is pending.
pub record HitsSince (was now : DumpSeatSeen) : Type 0 where
  pub same_table : now.table ≡ was.table
  pub same_taken : now.taken ≡ was.taken
  pub same_settled : now.settled ≡ was.settled
  pub same_part : now.part ≡ was.part
  pub same_alone : now.alone ≡ was.alone
  pub hits : now.hits ≡ was.hits ++ hit_since was now
  pub pending : now.pending ≡ was.pending ++ hit_since was now
