-- One probe more is copied.
use Rattle.std.proofs.Common.{◌≡◌, ◌≢◌, ℕ, ◌+◌, ◌<◌, List, [], Bool, length, get_or, sym, inl, inr, ⊎_elim, ◌∙◌, subst, arith}
use native.Mathlib.Decide.{ℕ_discrete}
use Rattle.jc_programs.specs.Probes.{IsHit}
use Rattle.jc_board.specs.Rule.{IsSetFrom}
use Rattle.jc_board.specs.Copying.{Copies}
use Rattle.jc_board.proofs.HitSetLaws.{with_set, counts_of-with_set, set_hit, set_more, set_less}

module _ (words : List ℕ) (first class id : ℕ) (was into now : List (List Bool)) (k : Copies words first class id was into) where
  -- its bit isn't set
  pub copied_unset : now ≡ into → (IsSetFrom words first id → ⊥) → Copies words first class (id + 1) was now
  copied_unset same not = subst (λ (l : List (List Bool)). Copies words first class (id + 1) was l) (sym same) (record {
    counts = k.counts;
    others = λ c i h. ⊎_elim (λ old. inl old) (λ t. let lt = t.1 in inr (t.0, omega (arith, lt), t.2)) (k.others c i h);
    kept = k.kept;
    gained = λ i h b. k.gained i (let ne : i ≢ id = λ e. not (subst (IsSetFrom words first) e b) in omega (arith, h)) b;
  })

  -- its bit is set, and it is hit
  pub copied_set : now ≡ with_set into class id → IsSetFrom words first id → class < length into → id < length (get_or into class []) → Copies words first class (id + 1) was now
  copied_set new it in_class in_row = subst (λ (l : List (List Bool)). Copies words first class (id + 1) was l) (sym new) (record {
    counts = counts_of-with_set into class id ∙ k.counts;
    others = λ c i h. ⊎_elim
        (λ old. ⊎_elim (λ o. inl o) (λ t. let lt = t.1 in inr (t.0, omega (arith, lt), t.2)) (k.others c i old))
        (λ e. inr (e.0, omega (arith, e.1), subst (IsSetFrom words first) (sym e.1) it))
        (set_less into class id in_class in_row c i h);
    kept = λ c i h. set_more into class id in_class in_row c i (k.kept c i h);
    gained = λ i h b. elim (ℕ_discrete i id) as (λ _. IsHit (with_set into class id) class i) [
      | yes e ↦ subst (λ n. IsHit (with_set into class id) class n) (sym e) (set_hit into class id in_class in_row)
      | no ne ↦ set_more into class id in_class in_row class i (k.gained i (omega (arith, h)) b)
    ];
  })
