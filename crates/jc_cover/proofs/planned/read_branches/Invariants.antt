use Rattle.std.proofs.Common.{◌≡◌, take}
use Rattle.jc_bytes.specs.PlainLists.{map_from}
use Rattle.jc_cover.specs.Planned.{read_branch}
use Rattle.jc_cover.proofs.planned.read_branches.Given as goal

-- the branches so far
abbrev pub invariant-reading : goal.invariant-reading
invariant-reading l = l.list ≡ map_from (read_branch l.plan) 0 (take l.k l.branch-items)
