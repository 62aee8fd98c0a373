use Rattle.std.proofs.Common.{◌≡◌, take}
use Rattle.jc_bytes.specs.FirstSeen.{seen_behind}
use Rattle.jc_cover.proofs.tally.put_numbers.Given as goal

-- the numbers so far
abbrev pub invariant-putting : goal.invariant-putting
invariant-putting l = l.set.keys ≡ seen_behind l.fn.set.keys (take l.number-index l.numbers)
