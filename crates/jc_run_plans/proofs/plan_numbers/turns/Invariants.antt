use Rattle.std.proofs.Common.{◌≡◌, ◌≤◌, length}
use Rattle.jc_run_plans.specs.PlanWords.{words_of}
use Rattle.jc_run_plans.specs.Plans.{turns_in}
use Rattle.jc_run_plans.proofs.PlanNumbersLaws.{all_of}
use Rattle.jc_run_plans.proofs.plan_numbers.turns.Given as goal

-- the turns are those that were read, and then those of the words that are left
abbrev pub invariant-words : goal.invariant-words
invariant-words l = (turns_in l.fn.threads (words_of l.fn.line) ≡ all_of l.turns (turns_in l.fn.threads (words_of l.rest))) × (length l.turns ≤ 1000000)

abbrev pub decreases-words : goal.decreases-words
decreases-words l = length l.rest
