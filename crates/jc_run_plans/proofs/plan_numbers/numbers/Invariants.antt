use Rattle.std.proofs.Common.{◌≡◌, length}
use Rattle.jc_run_plans.specs.PlanWords.{words_of}
use Rattle.jc_run_plans.specs.Plans.{numbers_in}
use Rattle.jc_run_plans.proofs.PlanNumbersLaws.{all_of}
use Rattle.jc_run_plans.proofs.plan_numbers.numbers.Given as goal

-- the numbers are those that were read, and then those of the words that are left
abbrev pub invariant-words : goal.invariant-words
invariant-words l = numbers_in (words_of l.fn.line) ≡ all_of l.numbers (numbers_in (words_of l.rest))

abbrev pub decreases-words : goal.decreases-words
decreases-words l = length l.rest
