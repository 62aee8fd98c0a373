-- Seats from which cases of a run plan run, and take dumps.
use Rattle.std.specs.Prelude.{◌≡◌, ℕ, ◌<◌, List, true, Result}
use Rattle.atomic_table.specs.Seated.{TableId}
use Rattle.jc_bytes.specs.declared.fail.Memory.{Memory}
use Rattle.jc_programs.specs.declared.program.Program.{Program}
use Rattle.jc_programs.specs.declared.run_plan.RunPlan.{RunPlan}
use Rattle.jc_programs.specs.declared.run_end.CaseEnd.{CaseEnd}
use Rattle.jc_workers.specs.declared.pool.Drew.{Drew}
use Rattle.jc_workers.specs.Cases.{HitBy, case_at, end_under}
use Rattle.jc_workers.specs.Claims.{AreThoseBelow}
use Rattle.jc_workers.specs.Drawing.{AreInTurn, AllDrew}
use Rattle.jc_dump.specs.declared.seat.Dumping.{Dumping}
use Rattle.jc_dump.specs.declared.seat.DumpingSeat.{DumpingSeat}
use Rattle.jc_dump.specs.HasRun.{HasRun}

-- a seat of the board, with a part
abbrev pub IsSeatOf : Dumping → ℕ → DumpingSeat → Type 0
IsSeatOf d part s = ((s.seat.table ≡ d.board.table) × (d.counts.items ≡ d.board.counts) × (0 < d.every)) × (s.seat.part ≡ part)

-- the cases of the list ran from the seat
abbrev pub RanFrom : Dumping → Program → RunPlan → DumpingSeat → List ℕ → Type 0
RanFrom d program plan s cases = HasRun d.every d.board.counts (HitBy program plan) cases s.seat s.dumps.items

-- each case ran, once; where there was one worker, in their order and from the seat alone
abbrev pub RanInTurn : (cases : ℕ) → (DumpingSeat → List ℕ → Type 0) → (one : Type 0) → DumpingSeat → Type 0
RanInTurn cases ran one s = (ran_here : List ℕ) × AreThoseBelow cases ran_here × ran s ran_here × (one → AreInTurn ran_here × (s.seat.alone ≡ true))

-- what workers that each had a seat of the board with this part gave of the cases of a run plan
abbrev pub AllRan : Program → RunPlan → Dumping → (part : ℕ) (claims : TableId) (cases : ℕ) → (ℕ → Type 0)
    → List (Result (Drew CaseEnd DumpingSeat) Memory) → Type 0
AllRan program plan board part claims cases passed gave =
    AllDrew (IsSeatOf board part) (RanFrom board program plan) claims cases (λ k. end_under program (case_at plan k)) passed gave
