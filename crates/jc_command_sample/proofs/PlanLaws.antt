-- The run plan of the sample, case by case, and that it is a run plan.
use Rattle.std.proofs.Common.{◌≡◌, ℕ, zero, suc, ◌+◌, ◌≤◌, List, [], ◌∷◌, ◌++◌, map, sym, ◌∙◌, ap, arith}
use Rattle.std.specs.List.{All, range_with_len}
use Rattle.std.proofs.lemmas.List.FromFn.{map-range_with_len_more, length-map-range_with_len}
use Rattle.std.proofs.lemmas.List.Elements.{All-nil, All-cons}
use Rattle.jc_programs.specs.declared.run_plan.Case.{Case}
use Rattle.jc_programs.specs.declared.run_plan.RunPlan.{RunPlan}
use Rattle.jc_programs.specs.Turns.{IsCase, IsRunPlan}
use Rattle.jc_command_sample.specs.SamplePlan.{sample_case, case_count, sample_plan}

pub case_more : (n k : ℕ) (old new : List Case) (case : Case) → old ≡ map (sample_case n) (range_with_len 0 k) → case ≡ sample_case n k → new ≡ old ++ case ∷ []
    → new ≡ map (sample_case n) (range_with_len 0 (k + 1))
case_more n k old new case p is q =
    q ∙ ap (λ (l : List Case). l ++ case ∷ []) p ∙ ap (λ (c : Case). map (sample_case n) (range_with_len 0 k) ++ c ∷ []) is
    ∙ sym (map-range_with_len_more (sample_case n) 0 k k (omega arith))

pub plan_is : (n k : ℕ) (cases : List Case) → k ≡ case_count n → cases ≡ map (sample_case n) (range_with_len 0 k) → record { cases = cases } ≡ sample_plan n
unfolding sample_plan
plan_is n k cases same p =
    let plan : List Case → RunPlan = λ l. record { cases = l } in
    ap plan (p ∙ ap (λ (m : ℕ). map (sample_case n) (range_with_len 0 m)) same)

-- ---- a run plan

each_case : (n a m : ℕ) → All IsCase (map (sample_case n) (range_with_len a m))
each_case n a zero = All-nil IsCase
each_case n a (suc m) =
    All-cons IsCase (sample_case n a) (map (sample_case n) (range_with_len (a + 1) m))
    (record { some = omega arith; few = omega arith; threads = tt; turns = omega arith }) (each_case n (a + 1) m)

pub sample_is_plan : (n : ℕ) → 1 ≤ n → IsRunPlan (sample_plan n)
unfolding sample_plan
sample_is_plan n some =
    let size = length-map-range_with_len (sample_case n) 0 (case_count n) in
    record {
      some = omega (arith, size);
      few = omega (arith, size);
      cases = each_case n 0 (case_count n);
    }
