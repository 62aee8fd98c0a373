use Rattle.std.proofs.Common.{◌≡◌, ℕ, ◌+◌, get_or, take}
use Rattle.std.specs.List.{count_by}
use Rattle.jc_bytes.specs.PlainLists.{join_from}
use Rattle.jc_plan.specs.Edges.{branches_of}
use Rattle.jc_plan.specs.InsnFacts.{enters}
use Rattle.jc_plan.proofs.entries.count_code.Given as goal

-- the entries by the instructions so far are counted
abbrev pub invariant-counting : goal.invariant-counting
invariant-counting l = (i : ℕ) → get_or l.counts i 0 ≡ get_or l.initial.counts i 0 + count_by (enters i) (join_from branches_of 0 (take l.at l.code))
