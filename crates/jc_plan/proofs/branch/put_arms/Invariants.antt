use Rattle.std.proofs.Common.{◌≡◌, ◌++◌, take}
use Rattle.jc_bytes.specs.PlainLists.{map_from}
use Rattle.jc_plan.specs.Edges.{arm}
use Rattle.jc_plan.proofs.branch.put_arms.Given as goal

-- the branches so far
abbrev pub invariant-putting : goal.invariant-putting
invariant-putting l = l.list.items ≡ l.initial.list.items ++ map_from (arm l.at) 0 (take l.number l.targets)
