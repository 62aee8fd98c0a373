-- The dumps of a run plan: sets of hits that are taken while its cases run, and the rest that is left behind them.
use Rattle.std.specs.Prelude.{◌≡◌, ℕ, ◌+◌, ◌*◌, ◌/◌, ◌%◌, ◌<◌, ◌≤◌, ◌⊎◌, ◌↔◌, List, [], Bool, length, slice_index_or}
use Rattle.jc_programs.specs.declared.program.Program.{Program}
use Rattle.jc_programs.specs.declared.run_plan.RunPlan.{RunPlan}
use Rattle.jc_programs.specs.Probes.{counts_of, IsHit}
use Rattle.jc_machine.specs.Hits.{probe_counts}
use Rattle.jc_machine_model.specs.Run.{IsHit as IsHitBy}
use Rattle.jc_workers.specs.Cases.{HitBy}

abbrev pub dump_at : List (List (List Bool)) → ℕ → List (List Bool)
dump_at dumps d = slice_index_or dumps d []

-- some dump has the hit
abbrev pub AnyDumpHas : List (List (List Bool)) → (class id : ℕ) → Type 0
AnyDumpHas dumps class id = (d : ℕ) × (d < length dumps) × IsHit (dump_at dumps d) class id

-- Dumps that are taken behind each case whose number, from 1, is a multiple of `every`, and the rest. Nothing is lost or made up.
pub record AreDumps (program : Program) (plan : RunPlan) (every : ℕ) (dumps : List (List (List Bool))) (rest : List (List Bool)) : Type 0 where
  pub count : length dumps ≡ length plan.cases / every
  pub dump_counts : (d : ℕ) → d < length dumps → counts_of (dump_at dumps d) ≡ probe_counts program
  pub rest_counts : counts_of rest ≡ probe_counts program
  -- together they are exactly the hits of the run plan
  pub all : (class id : ℕ) → IsHitBy program plan (record { class = class; id = id }) ↔ (AnyDumpHas dumps class id ⊎ IsHit rest class id)
  -- what such a case hits is in some dump
  pub due : (k : ℕ) → k < length plan.cases → (k + 1) % every ≡ 0 → (class id : ℕ) → HitBy program plan k class id → AnyDumpHas dumps class id

-- some case with a number from `first` on and below `end` hits the probe; numbers are from 0 here
abbrev pub AnyHits : Program → RunPlan → (first end class id : ℕ) → Type 0
AnyHits program plan first end class id = (k : ℕ) × (first ≤ k) × (k < end) × HitBy program plan k class id

-- each dump has exactly the hits of the cases since the one in front of it
pub record AreInOrder (program : Program) (plan : RunPlan) (every : ℕ) (dumps : List (List (List Bool))) (rest : List (List Bool)) : Type 0 where
  pub each : (d : ℕ) → d < length dumps → (class id : ℕ) → IsHit (dump_at dumps d) class id ↔ AnyHits program plan (d * every) (d * every + every) class id
  pub last : (class id : ℕ) → IsHit rest class id ↔ AnyHits program plan (length dumps * every) (length plan.cases) class id
