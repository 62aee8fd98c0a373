use Rattle.std.specs.Prelude.{◌≡◌, map, take}
use Rattle.jc_instrument.specs.Constants.{within}
use Rattle.jc_instrument.proofs.constants.all_within.Given as goal

-- the places so far are cut
abbrev pub invariant-cutting : goal.invariant-cutting
invariant-cutting l = l.cut.items ≡ map within (take l.place-index l.places)
