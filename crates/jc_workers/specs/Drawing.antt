-- What workers begin with, and what they give back.
use Rattle.std.specs.Prelude.{◌≡◌, ℕ, ◌+◌, ◌<◌, ◌≤◌, List, [], length, Contains, slice_index, slice_index_or, nat_lt, IfOk, Result}
use Rattle.std.specs.List.{filter}
use Rattle.std.specs.List.Sorted.{IsStrictlyIncreasing}
use Rattle.atomic_table.specs.Seated.{TableId}
use Rattle.jc_bytes.specs.declared.fail.Memory.{Memory}
use Rattle.jc_board.specs.Seen.{SeatSeen}
use Rattle.jc_programs.specs.declared.program.Program.{Program}
use Rattle.jc_programs.specs.declared.run_plan.RunPlan.{RunPlan}
use Rattle.jc_programs.specs.declared.run_end.CaseEnd.{CaseEnd}
use Rattle.jc_workers.specs.declared.pool.Turn.{Turn}
use Rattle.jc_workers.specs.declared.pool.Drew.{Drew}
use Rattle.jc_workers.specs.Cases.{HitBy, case_at, end_under}
use Rattle.jc_workers.specs.Claims.{AreThoseBelow}
use Rattle.jc_workers.specs.Ran.{EndsOf, HitsOf}

-- a number of the list is the count or more
abbrev pub GoesPast : ℕ → List ℕ → Type 0
GoesPast cases numbers = (y : ℕ) × Contains numbers y × (cases ≤ y)

-- of the numbers that were drawn, those of cases
abbrev pub cases_in : ℕ → List ℕ → List ℕ
cases_in cases numbers = filter (λ k. nat_lt k cases) numbers

-- the cases of the list are 0, 1 and so on
abbrev pub AreInTurn : List ℕ → Type 0
AreInTurn cases = (j : ℕ) → j < length cases → slice_index cases j ≡ j

-- each case ran, once, and the seat knows what they hit
abbrev pub RanAll : {S : Type 0} → (cases : ℕ) → (S → List ℕ → Type 0) → S → Type 0
RanAll cases ran seat = (ran_here : List ℕ) × AreThoseBelow cases ran_here × ran seat ran_here

-- of the cases that ran each has passed the gate, which counts them from 1
abbrev pub HavePassed : ℕ → (ℕ → Type 0) → (ℕ → Type 0) → Type 0
HavePassed cases passed Ran = (k : ℕ) → k < cases → Ran k → passed (k + 1)

-- a seat of a board, with a part
abbrev pub IsSeatOf : TableId → ℕ → SeatSeen → Type 0
IsSeatOf board part seat = (seat.table ≡ board) × (seat.part ≡ part)

-- the cases of the list ran from the seat
abbrev pub RanFrom : Program → RunPlan → SeatSeen → List ℕ → Type 0
RanFrom program plan seat cases = HitsOf (length plan.cases) (HitBy program plan) (Contains cases) seat.hits

-- no case ran from the seat, which is at its place, and the drawer has this budget
abbrev pub IsTurn : {S : Type 0} → (S → Type 0) → (S → List ℕ → Type 0) → TableId → ℕ → Turn S → Type 0
IsTurn at ran claims budget t = at t.seat × ran t.seat [] × (t.drawer.table ≡ claims) × (t.drawer.numbers ≡ []) × (t.drawer.budget ≡ budget)

abbrev pub AreTurns : {S : Type 0} → (S → Type 0) → (S → List ℕ → Type 0) → TableId → ℕ → List (Turn S) → Type 0
AreTurns {S} at ran claims budget turns = (w : ℕ) (t : Turn S) → w < length turns → IsTurn at ran claims budget (slice_index_or turns w t)

-- it ran the cases whose numbers it drew, each of which had passed the gate, and went on to a number that is no case
abbrev pub DidDraw : {E S : Type 0} → (S → Type 0) → (S → List ℕ → Type 0) → TableId → (cases : ℕ) → (ℕ → E) → (ℕ → Type 0) → Drew E S → Type 0
DidDraw at ran claims cases end_of passed d = at d.seat × ran d.seat (cases_in cases d.drawer.numbers) × (d.drawer.table ≡ claims)
    × (length d.drawer.numbers + d.drawer.budget ≡ cases + 1) × GoesPast cases d.drawer.numbers
    × EndsOf cases end_of (Contains d.drawer.numbers) d.ends.items × IsStrictlyIncreasing d.drawer.numbers
    × HavePassed cases passed (Contains d.drawer.numbers)

abbrev pub AllDrew : {E S : Type 0} → (S → Type 0) → (S → List ℕ → Type 0) → TableId → (cases : ℕ) → (ℕ → E) → (ℕ → Type 0)
    → List (Result (Drew E S) Memory) → Type 0
AllDrew {E} {S} at ran claims cases end_of passed gave = (w : ℕ) (d : Result (Drew E S) Memory) → w < length gave
    → IfOk (slice_index_or gave w d) (DidDraw at ran claims cases end_of passed)

-- what workers that each had a seat of the board with this part gave of the cases of a run plan
abbrev pub AllRan : Program → RunPlan → (board : TableId) (part : ℕ) (claims : TableId) (cases : ℕ) → (ℕ → Type 0)
    → List (Result (Drew CaseEnd SeatSeen) Memory) → Type 0
AllRan program plan board part claims cases passed gave =
    AllDrew (IsSeatOf board part) (RanFrom program plan) claims cases (λ k. end_under program (case_at plan k)) passed gave
