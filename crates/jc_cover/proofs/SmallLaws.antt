-- The counters of a class are small.
use Rattle.std.proofs.Common.{◌≡◌, ℕ, suc, ◌+◌, ◌-◌, ◌*◌, ◌≤◌, Bool, true, false, cond, List, [], ◌∷◌, ◌++◌, map, length, filter, Option, Some, None, refl, ap, arith}
use Rattle.std.specs.Prelude.{All, nat_le, option_map, option_to_list}
use Rattle.std.specs.List.{sum_by, flat_map, AllByRecursion}
use Rattle.std.proofs.lemmas.List.{length-append, length-map}
use Rattle.std.proofs.lemmas.List.Sums.{sum_by-cons}
use Rattle.jc_bytes.specs.PlainLists.{map_from, join_from}
use Rattle.jc_bytes.specs.FirstSeen.{first_seen}
use Rattle.jc_methods.specs.Insn.{arm_count}
use Rattle.jc_methods.specs.WellMade.{IsWellMade, insns_and_arms}
use Rattle.jc_methods.specs.declared.insn.Insn.{Insn}
use Rattle.jc_methods.specs.declared.body.Body.{Body}
use Rattle.jc_methods.specs.declared.body.LineAt.{LineAt}
use Rattle.jc_methods.proofs.PlacedInsnLaws.{few_insns}
use Rattle.jc_plan.proofs.FlowLaws.{few_of, length_seen}
use Rattle.jc_cover.specs.Covered.{branch_count, body_shape, HasShape}
use Rattle.jc_cover.specs.declared.coverage.Coverage.{Coverage}
use Rattle.jc_cover.proofs.TotalLaws.{count_whole, branch_whole, complexity_whole}
use Rattle.jc_cover.specs.Counters.{AreAtMost, counters_of, counted_methods, is_counted, is_covered_line, is_covered_method, Method, methods_of, all_insns, branching, is_covered, line_of, lined, lined_insns, Lined}

-- ---- the weight of a method

abbrev size : Insn → ℕ
size insn = 1 + arm_count insn

pub sized : (i : ℕ) (code : List Insn) (values : List (List Bool)) → map length values ≡ map_from branch_count i code → (length values ≡ length code)
    × (sum_by length values ≤ length code + insns_and_arms code)
sized i [] [] e = (refl, omega arith)
sized i [] (v ∷ values) e = absurd (omega (arith, ap length e))
sized i (insn ∷ code) [] e = absurd (omega (arith, ap length e))
sized i (insn ∷ code) (v ∷ values) e =
    let first : length v ≡ branch_count i insn = ap (λ l. head l) e in
    let rest = sized (i + 1) code values (ap (λ l. tail l) e) in
    let few = rest.1 in
    (ap (λ n. suc n) rest.0, omega (arith, first, few, few_of i insn, sum_by-cons length v values, sum_by-cons size insn code))
  where
    head : List ℕ → ℕ
    head [] = 0
    head (x ∷ xs) = x

    tail : List ℕ → List ℕ
    tail [] = []
    tail (x ∷ xs) = xs

-- one, an instruction each, and a branch each
abbrev pub weight : Method → ℕ
weight m = 1 + length m.insns + sum_by length m.insns

abbrev body_size : Body → ℕ
body_size b = insns_and_arms b.code

weighed : (b : Body) (values : List (List Bool)) → 1 ≤ length b.code → map length values ≡ body_shape b → weight (record { body = b; insns = values }) ≤ 4 * body_size b
weighed b values some e = let s = sized 0 b.code values e in let is = s.0 in let few = s.1 in omega (arith, some, is, few, few_insns b.code)

-- each body has an instruction
abbrev HaveInsns : List Body → Type 0
HaveInsns bodies = AllByRecursion (λ b. 1 ≤ length b.code) bodies

all_weighed : (p : Method → Bool) (bodies : List Body) (values : List (List (List Bool))) → HaveInsns bodies → map (map length) values ≡ map body_shape bodies
    → sum_by weight (filter p (methods_of bodies values)) ≤ 4 * sum_by body_size bodies
all_weighed p [] values some e = omega arith
all_weighed p (b ∷ bodies) [] some e = absurd (omega (arith, ap length e))
all_weighed p (b ∷ bodies) (v ∷ values) some e = by (p m) (all_weighed p bodies values some.1 (ap (λ l. tail l) e))
  where
    tail : List (List ℕ) → List (List ℕ)
    tail [] = []
    tail (x ∷ xs) = xs

    head : List (List ℕ) → List ℕ
    head [] = []
    head (x ∷ xs) = x

    m : Method
    m = record { body = b; insns = v }

    one : weight m ≤ 4 * body_size b
    one = weighed b v some.0 (ap (λ l. head l) e)

    by : (t : Bool) → sum_by weight (filter p (methods_of bodies values)) ≤ 4 * sum_by body_size bodies
        → sum_by weight (cond t (m ∷ filter p (methods_of bodies values)) (filter p (methods_of bodies values))) ≤ 4 * sum_by body_size (b ∷ bodies)
    by true h = omega (arith, h, one, sum_by-cons weight m (filter p (methods_of bodies values)), sum_by-cons body_size b bodies)
    by false h = omega (arith, h, sum_by-cons body_size b bodies)

-- ---- the counters

insns_weigh : (ms : List Method) → length (all_insns ms) + length ms ≤ sum_by weight ms
insns_weigh [] = omega arith
insns_weigh (m ∷ ms) = omega (arith, length-append m.insns (all_insns ms), insns_weigh ms, sum_by-cons weight m ms)

sum_append : (xs ys : List (List Bool)) → sum_by length (xs ++ ys) ≡ sum_by length xs + sum_by length ys
sum_append [] ys = omega arith
sum_append (x ∷ xs) ys = omega (arith, sum_by-cons length x (xs ++ ys), sum_by-cons length x xs, sum_append xs ys)

branches_weigh : (ms : List Method) → sum_by length (all_insns ms) + length ms ≤ sum_by weight ms
branches_weigh [] = omega arith
branches_weigh (m ∷ ms) = omega (arith, sum_append m.insns (all_insns ms), branches_weigh ms, sum_by-cons weight m ms)

pub branching_few : (f : List Bool → ℕ) → ((v : List Bool) → f v ≤ length v) → (insns : List (List Bool)) → sum_by f (branching insns) ≤ sum_by length insns
branching_few f h [] = omega arith
branching_few f h (v ∷ insns) = by (nat_le 2 (length v)) (branching_few f h insns)
  where
    by : (t : Bool) → sum_by f (branching insns) ≤ sum_by length insns → sum_by f (cond t (v ∷ branching insns) (branching insns)) ≤ sum_by length (v ∷ insns)
    by true g = omega (arith, g, h v, sum_by-cons f v (branching insns), sum_by-cons length v insns)
    by false g = omega (arith, g, sum_by-cons length v insns)

length_option : {X : Type 0} (o : Option X) → length (option_to_list o) ≤ 1
length_option None = omega arith
length_option (Some x) = omega arith

lined_few : (lines : List LineAt) (i : ℕ) (insns : List (List Bool)) → length (join_from (λ i values. option_to_list (option_map (lined (is_covered values)) (line_of lines i))) i insns) ≤ length insns
lined_few lines i [] = omega arith
lined_few lines i (v ∷ insns) =
    omega (
      arith,
      length-append (option_to_list (option_map (lined (is_covered v)) (line_of lines i)))
          (join_from (λ i values. option_to_list (option_map (lined (is_covered values)) (line_of lines i))) (i + 1) insns),
      length_option (option_map (lined (is_covered v)) (line_of lines i)),
      lined_few lines (i + 1) insns,
    )

lines_weigh : (ms : List Method) → length (flat_map lined_insns ms) ≤ length (all_insns ms)
lines_weigh [] = omega arith
lines_weigh (m ∷ ms) = omega (arith, length-append (lined_insns m) (flat_map lined_insns ms), length-append m.insns (all_insns ms), lined_few m.body.lines 0 m.insns, lines_weigh ms)

module _ (ms : List Method) where
  pub instruction_small : length (all_insns ms) ≤ sum_by weight ms
  instruction_small = omega (arith, insns_weigh ms)

  pub branch_small : sum_by length (branching (all_insns ms)) ≤ sum_by weight ms
  branch_small = omega (arith, branching_few length (λ v. omega arith) (all_insns ms), branches_weigh ms)

  pub line_small : length (first_seen (map (λ l. l.number) (flat_map lined_insns ms))) ≤ sum_by weight ms
  line_small = omega (arith, length_seen (map (λ (l : Lined). l.number) (flat_map lined_insns ms)), length-map (flat_map lined_insns ms) (λ l. l.number), lines_weigh ms, insns_weigh ms)

  pub complexity_small : length ms + sum_by (λ values. length values - 1) (branching (all_insns ms)) ≤ sum_by weight ms
  complexity_small = omega (arith, branching_few (λ v. length v - 1) (λ v. omega arith) (all_insns ms), branches_weigh ms)

  pub method_small : length ms ≤ sum_by weight ms
  method_small = omega (arith, insns_weigh ms)

-- ---- a class

some_insns : (bodies : List Body) → All IsWellMade bodies → HaveInsns bodies
some_insns [] all = tt
some_insns (b ∷ bodies) all = ((all 0 b (omega arith)).of_any_size.code.some, some_insns bodies (λ k d lt. all (suc k) d (omega arith)))

pub counters_small : (bodies : List Body) (coverage : Coverage) (most : ℕ) → All IsWellMade bodies → HasShape bodies coverage
    → sum_by (λ b. insns_and_arms b.code) bodies ≤ most → AreAtMost (4 * most) (counters_of bodies coverage)
counters_small bodies coverage most all shape few =
    let ms = counted_methods bodies coverage in
    let weight_few = all_weighed (λ m. is_counted m.body) bodies coverage.edges (some_insns bodies all) shape in
    record {
      instruction = omega (arith, few, weight_few, count_whole is_covered (all_insns ms), instruction_small ms);
      branch = omega (arith, few, weight_few, branch_whole (all_insns ms), branch_small ms);
      line = omega (arith, few, weight_few, count_whole (is_covered_line (flat_map lined_insns ms)) (first_seen (map (λ l. l.number) (flat_map lined_insns ms))), line_small ms);
      complexity = omega (arith, few, weight_few, complexity_whole ms (all_insns ms), complexity_small ms);
      method = omega (arith, few, weight_few, count_whole is_covered_method ms, method_small ms);
    }
