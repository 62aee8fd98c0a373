use Rattle.std.proofs.Common.{◌≡◌, map, take}
use Rattle.jc_cover.specs.Planned.{told}
use Rattle.jc_cover.proofs.covering.told_values.Given as goal

-- the values of the instructions so far
abbrev pub invariant-telling : goal.invariant-telling
invariant-telling l = l.values ≡ map (map (told l.hits l.marks)) (take l.branches-index l.fn.branches)
