-- What the counters of classes add up to, and a counter of the classes (JaCoCo's documentation on coverage counters).
use Rattle.std.specs.Prelude.{Bool, List, filter, nat_lt}
use Rattle.std.specs.List.{sum_by}
use Rattle.jc_cover.specs.declared.coverage.Count.{Count}
use Rattle.jc_cover.specs.declared.coverage.Counters.{Counters}
use Rattle.jc_cover.specs.Counters.{whole, count_of}
use Rattle.jc_rules.specs.declared.total.Total.{Total}
use Rattle.jc_rules.specs.declared.total.Totals.{Totals}
use Rattle.jc_rules.specs.declared.total.Totalled.{Totalled}

-- the sums of one counter of each class
abbrev pub total_by : (Counters → Count) → List Totalled → Total
total_by counter classes = record {
  missed = sum_by (λ c. (counter c.counters).missed) classes;
  covered = sum_by (λ c. (counter c.counters).covered) classes;
}

-- an instruction of the class counts
abbrev pub has_counted_insn : Totalled → Bool
has_counted_insn c = nat_lt 0 (whole c.counters.instruction)

-- one of its methods is covered
abbrev pub is_covered_class : Totalled → Bool
is_covered_class c = nat_lt 0 c.counters.method.covered

abbrev pub as_total : Count → Total
as_total count = record { missed = count.missed; covered = count.covered }

-- each class with an instruction that counts is counted once
abbrev pub class_total : List Totalled → Total
class_total classes = as_total (count_of is_covered_class (filter has_counted_insn classes))

abbrev pub totals_of : List Totalled → Totals
totals_of classes = record {
  instruction = total_by (λ c. c.instruction) classes;
  branch = total_by (λ c. c.branch) classes;
  line = total_by (λ c. c.line) classes;
  complexity = total_by (λ c. c.complexity) classes;
  method = total_by (λ c. c.method) classes;
  class = class_total classes;
}
