use Rattle.std.proofs.Common.{◌≡◌, take}
use Rattle.jc_bytes.specs.PlainLists.{map_from}
use Rattle.jc_cover.specs.Planned.{read_branches}
use Rattle.jc_cover.proofs.planned.body_branches.Given as goal

-- the branches of the instructions so far
abbrev pub invariant-reading : goal.invariant-reading
invariant-reading g l = l.list.items ≡ map_from (read_branches l.plan) 0 (take l.at l.body.code)
