-- Systems whose threads take turns of two kinds, one after another: `step` is a turn of a thread, `is_kept` says whether its next
-- turn is a kept one, and `runs` whether the thread runs. Kept turns, rows of others, and spreads are told by these alone.
use Rattle.std.specs.Prelude.{◌≡◌, ℕ, suc, ◌<◌, ◌≤◌, Bool, true, false, List, [], ◌∷◌, ◌++◌, replicate, nat_eq, if◌then◌else◌}

-- the world after these turns
abbrev pub run_by : {W : Type 0} → (W → ℕ → W) → W → List ℕ → W
run_by step w [] = w
run_by step w (t ∷ turns) = run_by step (step w t) turns

-- the world after a turn of the thread, if it has one
abbrev pub step_when : {W : Type 0} → (W → ℕ → W) → Bool → W → ℕ → W
step_when step true w t = step w t
step_when step false w t = w

-- the turn with these behind it, if it is one of them
abbrev pub turn_when : Bool → ℕ → List ℕ → List ℕ
turn_when test t turns = if test then t ∷ turns else turns

-- how many turns in a row that aren't kept a thread has taken behind one more turn, which is its own or another thread's
abbrev pub row_behind : (its kept runs : Bool) → ℕ → ℕ
row_behind false kept runs n = n
row_behind true true runs n = 0
row_behind true false true n = suc n
row_behind true false false n = n

module _ {W : Type 0} (step : W → ℕ → W) (is_kept : W → ℕ → Bool) where
  -- those of the turns that are kept, in order
  abbrev pub kept_by : W → List ℕ → List ℕ
  kept_by w [] = []
  kept_by w (t ∷ turns) = turn_when (is_kept w t) t (kept_by (step w t) turns)

  -- so many turns of the thread, and no fewer, bring it to one that is kept
  pub record IsLeadBy (w : W) (t n : ℕ) : Type 0 where
    pub comes : is_kept (run_by step w (replicate n t)) t ≡ true
    pub none_before : (k : ℕ) → k < n → is_kept (run_by step w (replicate k t)) t ≡ false

  module _ (runs : W → ℕ → Bool) where
    -- how many turns in a row that aren't kept the thread has taken at the end of these turns, where it had taken n before
    abbrev pub row_by : W → ℕ → List ℕ → ℕ → ℕ
    row_by w t [] n = n
    row_by w t (k ∷ turns) n = row_by (step w k) t turns (row_behind (nat_eq k t) (is_kept w k) (runs w k) n)

    -- In front of each turn of a thread that runs stand as many turns of it as bring it to one that is kept. Turns of other
    -- threads are left out.
    abbrev pub IsSpreadBy : W → List ℕ → List ℕ → Type 0
    IsSpreadBy w [] turns = turns ≡ []
    IsSpreadBy w (t ∷ q) turns =
        elim (runs w t) [
          | true ↦ (n : ℕ) × (rest : List ℕ) × IsLeadBy w t n × (turns ≡ replicate n t ++ (t ∷ rest))
              × IsSpreadBy (run_by step w (replicate n t ++ (t ∷ []))) q rest
          | false ↦ IsSpreadBy w q turns
        ]

-- ---- a system beside that of its twin

-- `Pair` holds of worlds that belong together. `rank` says how many turns a thread of the twin takes at most before one that is
-- kept, and it is never above `most`. What is said of runs of the two follows from this record.
pub record IsSimulated {W W' : Type 0} (step : W → ℕ → W) (step' : W' → ℕ → W') (is_kept : W' → ℕ → Bool) (runs : W → ℕ → Bool) (runs' : W' → ℕ → Bool)
    (Pair : W → W' → Type 0) (rank : W' → ℕ → ℕ) (most : ℕ) : Type 0 where
  -- a turn that is kept is one of both, and another one a turn of the twin alone
  pub one : (w : W) (w' : W') (t : ℕ) → Pair w w' → Pair (step_when step (is_kept w' t) w t) (step' w' t)
  pub both_run : (w : W) (w' : W') (t : ℕ) → Pair w w' → runs' w' t ≡ runs w t
  -- a turn of a thread that doesn't run changes nothing
  pub idle : (w : W) (t : ℕ) → runs w t ≡ false → step w t ≡ w
  pub idle_twin : (w' : W') (t : ℕ) → runs' w' t ≡ false → step' w' t ≡ w'
  -- a turn that isn't kept brings its thread, which runs on, nearer to one that is
  pub runs_on : (w : W) (w' : W') (t : ℕ) → Pair w w' → runs' w' t ≡ true → is_kept w' t ≡ false → runs' (step' w' t) t ≡ true
  pub falls : (w : W) (w' : W') (t : ℕ) → Pair w w' → runs' w' t ≡ true → is_kept w' t ≡ false → rank (step' w' t) t < rank w' t
  pub small : (w : W) (w' : W') (t : ℕ) → Pair w w' → rank w' t ≤ most
  -- a turn of another thread leaves it where it stands
  pub others : (w' : W') (k t : ℕ) → nat_eq k t ≡ false → rank (step' w' k) t ≡ rank w' t
