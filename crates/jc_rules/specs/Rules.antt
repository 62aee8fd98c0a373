-- Rules on how much has to be covered, in whole numbers.
use Rattle.std.specs.Prelude.{ℕ, ◌+◌, ◌*◌, ◌≤◌}
use Rattle.jc_rules.specs.declared.total.Total.{Total}
use Rattle.jc_rules.specs.declared.total.Totals.{Totals}
use Rattle.jc_rules.specs.declared.rule.CounterKind.{CounterKind}
use Rattle.jc_rules.specs.declared.rule.CounterKind.TheVariants.{Instruction, Branch, Line, Complexity, Method, Class}
use Rattle.jc_rules.specs.declared.rule.Rule.{Rule}

abbrev pub total_for : CounterKind → Totals → Total
total_for Instruction totals = totals.instruction
total_for Branch totals = totals.branch
total_for Line totals = totals.line
total_for Complexity totals = totals.complexity
total_for Method totals = totals.method
total_for Class totals = totals.class

-- the covered items are no smaller a part of all than the fraction
abbrev pub IsReached : Total → ℕ → ℕ → Type 0
IsReached total least of = least * (total.missed + total.covered) ≤ total.covered * of

abbrev pub Holds : Totals → Rule → Type 0
Holds totals rule = IsReached (total_for rule.counter totals) rule.least rule.of
