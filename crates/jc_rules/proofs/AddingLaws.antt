-- Totals, one class more at a time.
use Rattle.std.proofs.Common.{◌≡◌, ℕ, ◌+◌, ◌*◌, ◌<◌, ◌≤◌, Bool, true, false, cond, not, List, [], ◌∷◌, ◌++◌, length, filter, get_or, take, sym, ◌∙◌, ap, subst, arith}
use Rattle.std.specs.Prelude.{◌&&◌, count_by}
use Rattle.std.specs.List.{sum_by}
use Rattle.std.proofs.lemmas.List.{take_more, take_all}
use Rattle.std.proofs.lemmas.List.Sums.{sum_by-append, sum_by-cons}
use Rattle.jc_plan.specs.Entries.{one_if}
use Rattle.jc_plan.proofs.CountLaws.{count_cons}
use Rattle.jc_cover.specs.declared.coverage.Count.{Count}
use Rattle.jc_cover.specs.declared.coverage.Counters.{Counters}
use Rattle.jc_rules.specs.Adding.{AreAtMost, IsAtMost, no_total, no_totals, plus_class, plus_count, class_count}
use Rattle.jc_rules.specs.Totals.{total_by, class_total, totals_of, has_counted_insn, is_covered_class}
use Rattle.jc_rules.specs.declared.total.Total.{Total}
use Rattle.jc_rules.specs.declared.total.Totals.{Totals}
use Rattle.jc_rules.specs.declared.total.Totalled.{Totalled}

-- ---- one class more

module _ (front : List Totalled) (c : Totalled) where
  sum_put : (f : Totalled → ℕ) → sum_by f (front ++ c ∷ []) ≡ sum_by f front + f c
  sum_put f = omega (arith, sum_by-append f front (c ∷ []), sum_by-cons f c [])

  total_put : (counter : Counters → Count) → total_by counter (front ++ c ∷ []) ≡ plus_count (total_by counter front) (counter c.counters)
  total_put counter =
      let missed = sum_put (λ k. (counter k.counters).missed) in
      let covered = sum_put (λ k. (counter k.counters).covered) in
      λ i. record { missed = missed i; covered = covered i }

-- the classes that count and pass a test
abbrev counted_by : (Totalled → Bool) → List Totalled → ℕ
counted_by test classes = count_by test (filter has_counted_insn classes)

counted_cons : (test : Totalled → Bool) (c : Totalled) (classes : List Totalled) → counted_by test (c ∷ classes) ≡ one_if (has_counted_insn c && test c) + counted_by test classes
counted_cons test c classes = by (has_counted_insn c)
  where
    kept : List Totalled
    kept = filter has_counted_insn classes

    by : (counts : Bool) → count_by test (cond counts (c ∷ kept) kept) ≡ one_if (counts && test c) + count_by test kept
    by true = count_cons test c kept
    by false = omega arith

counted_put : (test : Totalled → Bool) (front : List Totalled) (c : Totalled)
    → counted_by test (front ++ c ∷ []) ≡ counted_by test front + one_if (has_counted_insn c && test c)
counted_put test [] c = omega (arith, counted_cons test c [])
counted_put test (d ∷ front) c = omega (arith, counted_cons test d (front ++ c ∷ []), counted_cons test d front, counted_put test front c)

class_put : (front : List Totalled) (c : Totalled) → class_total (front ++ c ∷ []) ≡ plus_count (class_total front) (class_count c.counters)
class_put front c =
    let missed = counted_put (λ k. not (is_covered_class k)) front c in
    let covered = counted_put is_covered_class front c in
    λ i. record { missed = missed i; covered = covered i }

totals_put : (front : List Totalled) (c : Totalled) → totals_of (front ++ c ∷ []) ≡ plus_class (totals_of front) c.counters
totals_put front c =
    let instruction = total_put front c (λ k. k.instruction) in
    let branch = total_put front c (λ k. k.branch) in
    let line = total_put front c (λ k. k.line) in
    let complexity = total_put front c (λ k. k.complexity) in
    let method = total_put front c (λ k. k.method) in
    let class = class_put front c in
    λ i. record { instruction = instruction i; branch = branch i; line = line i; complexity = complexity i; method = method i; class = class i }

-- so many classes are in the totals
pub record Adding (classes : List Totalled) (k : ℕ) (totals : Totals) : Type 0 where
  pub added : totals ≡ totals_of (take k classes)
  pub small : AreAtMost (k * 4294967295) totals

pub adds_none : (classes : List Totalled) (totals : Totals) → totals ≡ no_totals → Adding classes 0 totals
adds_none classes totals e = record { added = e; small = subst (AreAtMost (0 * 4294967295)) (sym e) zero }
  where
    none : IsAtMost (0 * 4294967295) no_total
    none = (omega arith, omega arith)

    zero : AreAtMost (0 * 4294967295) no_totals
    zero = record { instruction = none; branch = none; line = none; complexity = none; method = none; class = none }

pub adds_more : (classes : List Totalled) (k : ℕ) (d : Totalled) (totals next : Totals) → k < length classes → next ≡ plus_class totals (get_or classes k d).counters
    → ((most : ℕ) → AreAtMost most totals → AreAtMost (most + 4294967295) next) → Adding classes k totals → Adding classes (k + 1) next
adds_more classes k d totals next lt put more a =
    let one : totals_of (take (k + 1) classes) ≡ plus_class (totals_of (take k classes)) (get_or classes k d).counters =
    ap totals_of (take_more classes k d lt) ∙ totals_put (take k classes) (get_or classes k d) in
    let same : k * 4294967295 + 4294967295 ≡ (k + 1) * 4294967295 = omega arith in
    record {
      added = put ∙ ap (λ (t : Totals). plus_class t (get_or classes k d).counters) a.added ∙ sym one;
      small = subst (λ n. AreAtMost n next) same (more (k * 4294967295) a.small);
    }

pub added_all : (classes : List Totalled) (k : ℕ) (totals : Totals) → length classes ≤ k → Adding classes k totals → totals ≡ totals_of classes
added_all classes k totals le a = a.added ∙ ap totals_of (take_all k classes le)

module _ (a b : ℕ) (le : a ≤ b) where
  at_most : (total : Total) → IsAtMost a total → IsAtMost b total
  at_most total is = let m = is.0 in let c = is.1 in (omega (arith, m, le), omega (arith, c, le))

  pub at_most_more : (totals : Totals) → AreAtMost a totals → AreAtMost b totals
  at_most_more totals are = record {
    instruction = at_most totals.instruction are.instruction;
    branch = at_most totals.branch are.branch;
    line = at_most totals.line are.line;
    complexity = at_most totals.complexity are.complexity;
    method = at_most totals.method are.method;
    class = at_most totals.class are.class;
  }
