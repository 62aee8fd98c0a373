use Rattle.std.proofs.Common.{sym, ◌∙◌}
use Rattle.jc_run_plans.proofs.PlanNumbersLaws.{digits_stop, digits_end}
use Rattle.jc_run_plans.proofs.plan_numbers.decimal_behind.Goals as goal

pub returns-in-None : goal.returns-in-None
returns-in-None c =
    sym (c.digits.invariant.0 ∙ digits_stop 18446744073709551615 c.digits.read c.digits.rest.now c.in-len1-up.len_at_least (sym c.if-not-is_digit.ensures) c.in-None.ensures.gives)

pub returns : goal.returns
returns c = sym (c.digits.invariant.0 ∙ digits_end 18446744073709551615 c.digits.read c.digits.rest.now c.in_default.len_below c.digits.invariant.1)
