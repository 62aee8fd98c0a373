-- Runs of a system and of its twin, whatever their worlds and turns are.
use Rattle.std.proofs.Common.{◌≡◌, ℕ, zero, suc, ◌+◌, ◌*◌, ◌<◌, ◌≤◌, Bool, true, false, List, [], ◌∷◌, ◌++◌, length, replicate, nat_eq, refl, sym, ap, ◌∙◌, subst, arith, length-append, append_assoc}
use Rattle.std.proofs.Math.ListN.{length-replicate}
use Rattle.std.proofs.Math.Nat.{mul-suc}
use Rattle.std.proofs.lemmas.Bool.{eqb-true}
use Rattle.jc_twin_simulation.specs.Schedules.{run_by, step_when, turn_when, kept_by, row_behind, row_by, IsLeadBy, IsSpreadBy, IsSimulated}

-- ---- lengths

below : (most n x y a b : ℕ) → n ≤ most → a ≤ x → y ≡ x + suc most → b ≡ n + suc a → b ≤ y
below most n x y a b few short more is = omega (arith, few, short, more, is)

longer : (most n q a b : ℕ) → n ≤ most → a ≤ suc most * q → b ≡ n + suc a → b ≤ suc most * suc q
longer most n q a b few short is = below most n (suc most * q) (suc most * suc q) a b few short (mul-suc (suc most) q) is

up_to : (most x y a : ℕ) → a ≤ x → y ≡ x + suc most → a ≤ y
up_to most x y a short more = omega (arith, short, more)

no_shorter : (most q a : ℕ) → a ≤ suc most * q → a ≤ suc most * suc q
no_shorter most q a short = up_to most (suc most * q) (suc most * suc q) a short (mul-suc (suc most) q)

none_long : (turns : List ℕ) (most : ℕ) → turns ≡ [] → length turns ≤ most * 0
none_long turns most e = subst (λ l. length l ≤ most * 0) (sym e) (zero_below (most * 0))
  where
    zero_below : (x : ℕ) → 0 ≤ x
    zero_below x = omega arith

-- ---- turns in two parts

turn_append : (b : Bool) (k : ℕ) (xs ys : List ℕ) → turn_when b k (xs ++ ys) ≡ turn_when b k xs ++ ys
turn_append true k xs ys = refl
turn_append false k xs ys = refl

module _ {W : Type 0} (step : W → ℕ → W) (is_kept : W → ℕ → Bool) where
  pub kept_append : (xs ys : List ℕ) (w : W) → kept_by step is_kept w (xs ++ ys) ≡ kept_by step is_kept w xs ++ kept_by step is_kept (run_by step w xs) ys
  kept_append [] ys w = refl
  kept_append (k ∷ xs) ys w =
      ap (turn_when (is_kept w k) k) (kept_append xs ys (step w k))
      ∙ turn_append (is_kept w k) k (kept_by step is_kept (step w k) xs) (kept_by step is_kept (run_by step w (k ∷ xs)) ys)

  -- the lead behind one turn
  pub next_lead : (w : W) (t n : ℕ) → IsLeadBy step is_kept w t (suc n) → IsLeadBy step is_kept (step w t) t n
  next_lead w t n l = record { comes = l.comes; none_before = λ k lt. l.none_before (suc k) (omega arith) }

  -- the turns of a lead, and one more, have one kept turn, the last
  pub lead_kept : (n t : ℕ) (w : W) → IsLeadBy step is_kept w t n → kept_by step is_kept w (replicate n t ++ (t ∷ [])) ≡ t ∷ []
  lead_kept zero t w l = ap (λ b. turn_when b t []) l.comes
  lead_kept (suc n) t w l =
      ap (λ b. turn_when b t (kept_by step is_kept (step w t) (replicate n t ++ (t ∷ [])))) (l.none_before 0 (omega arith))
      ∙ lead_kept n t (step w t) (next_lead w t n l)

module _ {W W' : Type 0} (step : W → ℕ → W) (step' : W' → ℕ → W') (is_kept : W' → ℕ → Bool) (runs : W → ℕ → Bool) (runs' : W' → ℕ → Bool)
    (Pair : W → W' → Type 0) (rank : W' → ℕ → ℕ) (most : ℕ) (is : IsSimulated step step' is_kept runs runs' Pair rank most) where
  abbrev Lead : W' → ℕ → ℕ → Type 0
  Lead w' t n = IsLeadBy step' is_kept w' t n

  abbrev Spread : W' → List ℕ → List ℕ → Type 0
  Spread w' q turns = IsSpreadBy step' is_kept runs' w' q turns

  abbrev kept : W' → List ℕ → List ℕ
  kept w' turns = kept_by step' is_kept w' turns

  -- ---- a run of the twin and its kept turns

  run_if : (b : Bool) (t : ℕ) (turns : List ℕ) (w : W) → run_by step w (turn_when b t turns) ≡ run_by step (step_when step b w t) turns
  run_if true t turns w = refl
  run_if false t turns w = refl

  pub same_run : (turns : List ℕ) (w : W) (w' : W') → Pair w w' → Pair (run_by step w (kept w' turns)) (run_by step' w' turns)
  same_run [] w w' h = h
  same_run (t ∷ turns) w w' h =
      subst (λ v. Pair v (run_by step' (step' w' t) turns)) (sym (run_if (is_kept w' t) t (kept (step' w' t) turns) w))
      (same_run turns (step_when step (is_kept w' t) w t) (step' w' t) (is.one w w' t h))

  aside_pair : (w : W) (w' : W') (t : ℕ) → Pair w w' → is_kept w' t ≡ false → Pair w (step' w' t)
  aside_pair w w' t h n = subst (λ b. Pair (step_when step b w t) (step' w' t)) n (is.one w w' t h)

  -- ---- the turns in front of a kept one

  lead_by : (n : ℕ) (w : W) (w' : W') (t : ℕ) → Pair w w' → runs' w' t ≡ true → rank w' t ≤ n → (b : Bool) → is_kept w' t ≡ b → (k : ℕ) × Lead w' t k
  lead_by n w w' t h r le true e = (0, record { comes = e; none_before = λ k lt. absurd (omega arith) })
  lead_by zero w w' t h r le false e = let lower = is.falls w w' t h r e in absurd (omega (arith, lower, le))
  lead_by (suc n) w w' t h r le false e =
      let lower = is.falls w w' t h r e in
      let more = lead_by n w (step' w' t) t (aside_pair w w' t h e) (is.runs_on w w' t h r e) (omega (arith, lower, le)) (is_kept (step' w' t) t) refl in
      (suc more.0, record { comes = more.1.comes; none_before = before e more.1 })
    where
      before : is_kept w' t ≡ false → {k : ℕ} → Lead (step' w' t) t k → (j : ℕ) → j < suc k → is_kept (run_by step' w' (replicate j t)) t ≡ false
      before e l zero lt = e
      before e l (suc j) lt = l.none_before j (omega arith)

  lead_short : (n k : ℕ) (w : W) (w' : W') (t : ℕ) → Pair w w' → runs' w' t ≡ true → rank w' t ≤ n → Lead w' t k → k ≤ n
  lead_short n zero w w' t h r le l = omega arith
  lead_short zero (suc k) w w' t h r le l = let lower = is.falls w w' t h r (l.none_before 0 (omega arith)) in absurd (omega (arith, lower, le))
  lead_short (suc n) (suc k) w w' t h r le l =
      let e = l.none_before 0 (omega arith) in
      let lower = is.falls w w' t h r e in
      let short = lead_short n k w (step' w' t) t (aside_pair w w' t h e) (is.runs_on w w' t h r e) (omega (arith, lower, le)) (next_lead step' is_kept w' t k l) in
      omega (arith, short)

  -- a turn of the original, and the turns for it
  lead_run : (w : W) (w' : W') (t n : ℕ) → Pair w w' → Lead w' t n → Pair (step w t) (run_by step' w' (replicate n t ++ (t ∷ [])))
  lead_run w w' t n h l =
      subst (λ q. Pair (run_by step w q) (run_by step' w' (replicate n t ++ (t ∷ [])))) (lead_kept step' is_kept n t w' l)
      (same_run (replicate n t ++ (t ∷ [])) w w' h)

  idle_same : (w : W) (w' : W') (t : ℕ) → Pair w w' → runs' w' t ≡ false → step w t ≡ w
  idle_same w w' t h e = is.idle w t (sym (is.both_run w w' t h) ∙ e)

  -- ---- spreads

  abbrev OneSpread : W' → ℕ → List ℕ → List ℕ → Bool → Type 0
  OneSpread w t q turns b =
      elim b [
        | true ↦ (n : ℕ) × (rest : List ℕ) × Lead w t n × (turns ≡ replicate n t ++ (t ∷ rest)) × Spread (run_by step' w (replicate n t ++ (t ∷ []))) q rest
        | false ↦ Spread w q turns
      ]

  pub spread_there : (q : List ℕ) (w : W) (w' : W') → Pair w w' → (turns : List ℕ) × Spread w' q turns
  spread_there [] w w' h = ([], refl)
  spread_there (t ∷ q) w w' h = by (runs' w' t) refl (λ v v' k. spread_there q v v' k)
    where
      by : (b : Bool) → runs' w' t ≡ b → ((v : W) (v' : W') → Pair v v' → (turns : List ℕ) × Spread v' q turns) → (turns : List ℕ) × OneSpread w' t q turns b
      by true e go =
          let l = lead_by most w w' t h e (is.small w w' t h) (is_kept w' t) refl in
          let rest = go (step w t) (run_by step' w' (replicate l.0 t ++ (t ∷ []))) (lead_run w w' t l.0 h l.1) in
          (replicate l.0 t ++ (t ∷ rest.0), (l.0, rest.0, l.1, refl, rest.1))
      by false e go = go w w' h

  pub record Spreads (q turns : List ℕ) (w : W) (w' : W') : Type 0 where
    pub same : run_by step w (kept w' turns) ≡ run_by step w q
    pub short : length turns ≤ suc most * length q

  pub spread_same : (q turns : List ℕ) (w : W) (w' : W') → Pair w w' → Spread w' q turns → Spreads q turns w w'
  spread_same [] turns w w' h s = record { same = ap (λ l. run_by step w (kept w' l)) s; short = none_long turns (suc most) s }
  spread_same (t ∷ q) turns w w' h s = by (runs' w' t) refl s (λ rest v v' k m. spread_same q rest v v' k m)
    where
      by : (b : Bool) → runs' w' t ≡ b → OneSpread w' t q turns b → ((rest : List ℕ) (v : W) (v' : W') → Pair v v' → Spread v' q rest → Spreads q rest v v') → Spreads (t ∷ q) turns w w'
      by true e (n, rest, lead, is_parts, more) go =
          let front = replicate n t ++ (t ∷ []) in
          let v' = run_by step' w' front in
          let k = go rest (step w t) v' (lead_run w w' t n h lead) more in
          let parts : turns ≡ front ++ rest = is_parts ∙ sym (append_assoc (replicate n t) (t ∷ []) rest) in
          let few = lead_short most n w w' t h e (is.small w w' t h) lead in
          let size = length-append (replicate n t) (t ∷ rest) in
          let many : length (replicate n t) ≡ n = length-replicate n t in
          let all = ap length is_parts in
          record {
            same =
                ap (λ l. run_by step w (kept w' l)) parts
                ∙ ap (run_by step w) (kept_append step' is_kept front rest w' ∙ ap (λ l. l ++ kept v' rest) (lead_kept step' is_kept n t w' lead))
                ∙ k.same;
            short = longer most n (length q) (length rest) (length turns) few k.short (all ∙ size ∙ ap (λ m. m + suc (length rest)) many);
          }
      by false e m go =
          let k = go turns w w' h m in
          record {
            same = k.same ∙ ap (λ v. run_by step v q) (sym (idle_same w w' t h e));
            short = no_shorter most (length q) (length turns) k.short;
          }

  -- ---- few turns in a row aren't kept

  row_small : (k t : ℕ) (w : W) (w' : W') (n : ℕ) → Pair w w' → n + rank w' t ≤ most → (its now on : Bool) → nat_eq k t ≡ its → is_kept w' k ≡ now → runs' w' k ≡ on
      → row_behind its now on n + rank (step' w' k) t ≤ most
  row_small k t w w' n h le false now on e e' e'' = let same = is.others w' k t e in omega (arith, same, le)
  row_small k t w w' n h le true true on e e' e'' =
      let small = is.small (step_when step true w k) (step' w' k) t (subst (λ b. Pair (step_when step b w k) (step' w' k)) e' (is.one w w' k h)) in
      omega (arith, small)
  row_small k t w w' n h le true false true e e' e'' =
      let same = eqb-true k t e in
      let lower = is.falls w w' k h e'' e' in
      let a : rank w' k ≡ rank w' t = ap (rank w') same in
      let b : rank (step' w' k) k ≡ rank (step' w' k) t = ap (rank (step' w' k)) same in
      omega (arith, lower, a, b, le)
  row_small k t w w' n h le true false false e e' e'' =
      let still : rank (step' w' k) t ≡ rank w' t = ap (λ v. rank v t) (is.idle_twin w' k e'') in
      omega (arith, still, le)

  few : (t : ℕ) (turns : List ℕ) (w : W) (w' : W') (n : ℕ) → Pair w w' → n + rank w' t ≤ most → row_by step' is_kept runs' w' t turns n ≤ most
  few t [] w w' n h le = omega (arith, le)
  few t (k ∷ turns) w w' n h le =
      few t turns (step_when step (is_kept w' k) w k) (step' w' k) (row_behind (nat_eq k t) (is_kept w' k) (runs' w' k) n) (is.one w w' k h)
      (row_small k t w w' n h le (nat_eq k t) (is_kept w' k) (runs' w' k) refl refl refl)

  pub few_probe_turns : (t : ℕ) (turns : List ℕ) (w : W) (w' : W') → Pair w w' → row_by step' is_kept runs' w' t turns 0 ≤ most
  few_probe_turns t turns w w' h = let r = is.small w w' t h in few t turns w w' 0 h (omega (arith, r))
