use Rattle.std.proofs.Common.{◌≡◌, map, take}
use Rattle.jc_layout.specs.Shift.{ends_in}
use Rattle.jc_layout.proofs.jumps.ends_of.Given as goal

-- those of the jumps so far
abbrev pub invariant-listing : goal.invariant-listing
invariant-listing l = l.ends.items ≡ map (ends_in l.starts) (take l.jump-index l.jumps)
