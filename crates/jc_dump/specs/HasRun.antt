-- What a seat knows from which cases ran, and the dumps that were taken from it.
use Rattle.std.specs.Prelude.{◌≡◌, ℕ, ◌+◌, ◌-◌, ◌*◌, ◌/◌, ◌%◌, ◌<◌, ◌≤◌, ◌⊎◌, ◌↔◌, List, [], ◌∷◌, ◌++◌, Bool, true, length, map, Contains}
use Rattle.jc_programs.specs.Probes.{counts_of, IsHit}
use Rattle.jc_dump_board.specs.Seen.{DumpSeatSeen}
use Rattle.jc_workers.specs.Claims.{times}
use Rattle.jc_workers.specs.Drawing.{AreInTurn}
use Rattle.jc_dump.specs.Since.{PendingAreHits}

-- a dump has a number, from 0
abbrev pub Dumps : Type 0
Dumps = List (ℕ × List (List Bool))

abbrev pub number : ℕ × List (List Bool) → ℕ
number t = t.0

abbrev pub HasDump : Dumps → (d : ℕ) → List (List Bool) → Type 0
HasDump dumps d dump = Contains {X = ℕ × List (List Bool)} dumps (d, dump)

-- some dump has the hit
abbrev pub AnyHas : Dumps → (class id : ℕ) → Type 0
AnyHas dumps class id = (d : ℕ) × (dump : List (List Bool)) × HasDump dumps d dump × IsHit dump class id

-- some case of the list hits the probe
abbrev pub HitByAny : (hit_by : (case class id : ℕ) → Type 0) → List ℕ → (class id : ℕ) → Type 0
HitByAny hit_by cases class id = (k : ℕ) × Contains cases k × hit_by k class id

-- some case from `first` on and below `end` hits it
abbrev pub AnyFrom : (hit_by : (case class id : ℕ) → Type 0) → (first end class id : ℕ) → Type 0
AnyFrom hit_by first end class id = (k : ℕ) × (first ≤ k) × (k < end) × hit_by k class id

-- behind the case a dump is due
abbrev pub IsDue : (every case : ℕ) → Type 0
IsDue every case = case % every + 1 ≡ every

-- the case behind which a dump is due
abbrev pub last_case : (every d : ℕ) → ℕ
last_case every d = d * every + (every - 1)

-- what was pending, and what was hit
abbrev pub GainsHits : (hit : (class id : ℕ) → Type 0) → (was now : List (ℕ × ℕ)) → Type 0
GainsHits hit was now = (class id : ℕ) → Contains {X = ℕ × ℕ} now (class, id) ↔ (Contains {X = ℕ × ℕ} was (class, id) ⊎ hit class id)

-- A dump is taken.
pub record Takes (counts : List ℕ) (before after : DumpSeatSeen) (dump : List (List Bool)) : Type 0 where
  pub same_hits : after.hits ≡ before.hits
  pub same_alone : after.alone ≡ before.alone
  pub same_counts : counts_of dump ≡ counts
  pub gained : (found : List (ℕ × ℕ)) × (after.taken ≡ before.taken ++ found) × ((class id : ℕ) → IsHit dump class id ↔ Contains {X = ℕ × ℕ} found (class, id))
  pub pending : after.pending ≡ []
  pub settled : (class id : ℕ) → Contains after.settled (class, id) ↔ (Contains before.settled (class, id) ⊎ Contains before.hits (class, id))
  pub only : before.alone ≡ true → (class id : ℕ) → IsHit dump class id ↔ Contains before.pending (class, id)

-- A dump is taken where one is due, else nothing is done.
abbrev pub TakesDue : (every : ℕ) (counts : List ℕ) (case : ℕ) (before after : DumpSeatSeen) (dumps more : Dumps) → Type 0
TakesDue every counts case before after dumps more = ((IsDue every case → ⊥) × (after ≡ before) × (more ≡ dumps))
    ⊎ (IsDue every case × ((dump : List (List Bool)) × (more ≡ dumps ++ (case / every, dump) ∷ []) × Takes counts before after dump))

-- Cases ran in turn, m of them, and no other seat hit: each dump has the hits of its cases, and pending are those of the last.
pub record AreOfTheirCases (every : ℕ) (hit_by : (case class id : ℕ) → Type 0) (m : ℕ) (pending : List (ℕ × ℕ)) (dumps : Dumps) : Type 0 where
  pub each : (d : ℕ) (dump : List (List Bool)) → HasDump dumps d dump
      → (class id : ℕ) → IsHit dump class id ↔ AnyFrom hit_by (d * every) (d * every + every) class id
  pub last : (class id : ℕ) → Contains pending (class, id) ↔ AnyFrom hit_by (m - m % every) m class id

-- The cases of the list ran from the seat, or from seats that it has taken in.
pub record HasRun (every : ℕ) (counts : List ℕ) (hit_by : (case class id : ℕ) → Type 0) (cases : List ℕ) (seat : DumpSeatSeen) (dumps : Dumps) : Type 0 where
  pub hits : (class id : ℕ) → Contains seat.hits (class, id) ↔ HitByAny hit_by cases class id
  pub pending_are_hits : PendingAreHits seat
  -- what was taken is in the dumps
  pub taken : (class id : ℕ) → Contains seat.taken (class, id) ↔ AnyHas dumps class id
  -- what a case hits behind which a dump was due is taken by some seat
  pub settled : (k : ℕ) → Contains cases k → IsDue every k → (class id : ℕ) → hit_by k class id → Contains seat.settled (class, id)
  -- a dump was taken behind each such case
  pub numbers : (d : ℕ) → times d (map number dumps) ≡ times (last_case every d) cases
  pub same_counts : (d : ℕ) (dump : List (List Bool)) → HasDump dumps d dump → counts_of dump ≡ counts
  pub alone : seat.alone ≡ true → AreInTurn cases → AreOfTheirCases every hit_by (length cases) seat.pending dumps
