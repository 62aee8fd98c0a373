-- What is missed and what is covered make up the whole.
use Rattle.std.proofs.Common.{◌≡◌, ◌+◌, ◌-◌, ◌≤◌, Bool, true, false, not, List, [], ◌∷◌, length, refl, ◌∙◌, arith}
use Rattle.std.specs.List.{count_by, sum_by, flat_map}
use Rattle.std.proofs.lemmas.List.{length-append}
use Rattle.std.proofs.lemmas.List.Sums.{sum_by-cons}
use Rattle.jc_plan.specs.Entries.{one_if}
use Rattle.jc_plan.proofs.CountLaws.{count_cons}
use Rattle.jc_cover.specs.Counters.{Method, is_covered_method, covered_branches, covered_paths, missed_paths, branching, complexity_count, whole}

either : (t : Bool) → one_if (not t) + one_if t ≡ 1
either true = refl
either false = refl

pub count_whole : {X : Type 0} (test : X → Bool) (xs : List X) → count_by (λ x. not (test x)) xs + count_by test xs ≡ length xs
count_whole test [] = refl
count_whole test (x ∷ xs) = omega (arith, count_cons (λ y. not (test y)) x xs, count_cons test x xs, either (test x), count_whole test xs)

length_flat : {X : Type 0} (xs : List (List X)) → length (flat_map (λ values. values) xs) ≡ sum_by length xs
length_flat [] = refl
length_flat (x ∷ xs) = omega (arith, length-append x (flat_map (λ values. values) xs), sum_by-cons length x xs, length_flat xs)

pub branch_whole : (insns : List (List Bool)) → count_by (λ value. not value) (flat_map (λ values. values) (branching insns)) + count_by
    (λ value. value) (flat_map (λ values. values) (branching insns)) ≡ sum_by length (branching insns)
branch_whole insns = count_whole (λ (value : Bool). value) (flat_map (λ values. values) (branching insns)) ∙ length_flat (branching insns)

covered_within : (values : List Bool) → covered_branches values ≤ length values
covered_within values = omega (arith, count_whole (λ (value : Bool). value) values)

paths : (values : List Bool) → missed_paths values + covered_paths values ≡ length values - 1
paths values = omega (arith, covered_within values)

pub paths_whole : (insns : List (List Bool)) → sum_by missed_paths insns + sum_by covered_paths insns ≡ sum_by (λ values. length values - 1) insns
paths_whole [] = refl
paths_whole (values ∷ insns) =
    omega (arith, sum_by-cons missed_paths values insns, sum_by-cons covered_paths values insns, sum_by-cons (λ v. length v - 1) values insns, paths values, paths_whole insns)

pub complexity_whole : (methods : List Method) (insns : List (List Bool))
    → whole (complexity_count methods insns) ≡ length methods + sum_by (λ values. length values - 1) (branching insns)
complexity_whole methods insns = omega (arith, count_whole is_covered_method methods, paths_whole (branching insns))
