use Rattle.std.proofs.Common.{◌≡◌, ◌≤◌, length}
use Rattle.jc_run_plans.specs.PlanWords.{words_of}
use Rattle.jc_run_plans.proofs.plan_words.next_word.Given as goal

-- the words are those of what is left
abbrev pub invariant-parts : goal.invariant-parts
invariant-parts l = (words_of l.fn.line ≡ words_of l.rest) × (length l.rest ≤ length l.fn.line)

abbrev pub decreases-parts : goal.decreases-parts
decreases-parts l = length l.rest
