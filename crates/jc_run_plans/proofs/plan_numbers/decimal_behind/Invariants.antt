use Rattle.std.proofs.Common.{◌≡◌, ◌≤◌, length}
use Rattle.jc_run_plans.specs.PlanWords.{decimal_behind, up_to}
use Rattle.jc_run_plans.proofs.plan_numbers.decimal_behind.Given as goal

-- the number is that of the digits that are left behind what was read
abbrev pub invariant-digits : goal.invariant-digits
invariant-digits l =
    (up_to 18446744073709551615 (decimal_behind l.fn.number l.digits) ≡ up_to 18446744073709551615 (decimal_behind l.read l.rest)) × (l.read ≤ 18446744073709551615)

abbrev pub decreases-digits : goal.decreases-digits
decreases-digits l = length l.rest
