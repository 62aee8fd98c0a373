-- Totals put together class by class.
use Rattle.std.specs.Prelude.{ℕ, ◌+◌, ◌≤◌, not, ◌&&◌, nat_lt}
use Rattle.jc_plan.specs.Entries.{one_if}
use Rattle.jc_cover.specs.declared.coverage.Count.{Count}
use Rattle.jc_cover.specs.declared.coverage.Counters.{Counters}
use Rattle.jc_cover.specs.Counters.{whole}
use Rattle.jc_rules.specs.declared.total.Total.{Total}
use Rattle.jc_rules.specs.declared.total.Totals.{Totals}

abbrev pub no_total : Total
no_total = record { missed = 0; covered = 0 }

abbrev pub no_totals : Totals
no_totals = record {
  instruction = no_total;
  branch = no_total;
  line = no_total;
  complexity = no_total;
  method = no_total;
  class = no_total;
}

abbrev pub plus_count : Total → Count → Total
plus_count total count = record { missed = total.missed + count.missed; covered = total.covered + count.covered }

-- one class, if an instruction of it counts
abbrev pub class_count : Counters → Count
class_count c =
    let counts = nat_lt 0 (whole c.instruction) in
    let covered = nat_lt 0 c.method.covered in
    record { missed = one_if (counts && not covered); covered = one_if (counts && covered) }

abbrev pub plus_class : Totals → Counters → Totals
plus_class totals c = record {
  instruction = plus_count totals.instruction c.instruction;
  branch = plus_count totals.branch c.branch;
  line = plus_count totals.line c.line;
  complexity = plus_count totals.complexity c.complexity;
  method = plus_count totals.method c.method;
  class = plus_count totals.class (class_count c);
}

abbrev pub IsAtMost : ℕ → Total → Type 0
IsAtMost most total = (total.missed ≤ most) × (total.covered ≤ most)

-- no number of the totals is greater
pub record AreAtMost (most : ℕ) (totals : Totals) : Type 0 where
  pub instruction : IsAtMost most totals.instruction
  pub branch : IsAtMost most totals.branch
  pub line : IsAtMost most totals.line
  pub complexity : IsAtMost most totals.complexity
  pub method : IsAtMost most totals.method
  pub class : IsAtMost most totals.class
