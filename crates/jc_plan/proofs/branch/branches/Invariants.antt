use Rattle.std.proofs.Common.{◌≡◌, take}
use Rattle.jc_bytes.specs.PlainLists.{join_from}
use Rattle.jc_plan.specs.Edges.{branches_of}
use Rattle.jc_plan.proofs.branch.branches.Given as goal

-- the branches of the instructions so far
abbrev pub invariant-listing : goal.invariant-listing
invariant-listing l = l.list.items ≡ join_from branches_of 0 (take l.at l.code)
