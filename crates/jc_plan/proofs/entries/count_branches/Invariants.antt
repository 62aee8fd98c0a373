use Rattle.std.proofs.Common.{◌≡◌, ℕ, ◌+◌, get_or, take}
use Rattle.std.specs.List.{count_by}
use Rattle.jc_plan.specs.InsnFacts.{enters}
use Rattle.jc_plan.proofs.entries.count_branches.Given as goal

-- the entries of the branches so far are counted
abbrev pub invariant-counting : goal.invariant-counting
invariant-counting l = (i : ℕ) → get_or l.counts i 0 ≡ get_or l.initial.counts i 0 + count_by (enters i) (take l.branch-index l.branches)
