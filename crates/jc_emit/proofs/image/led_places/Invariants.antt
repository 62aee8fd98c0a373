use Rattle.std.proofs.Common.{◌≡◌, map, take, slice_index}
use Rattle.jc_emit.proofs.image.led_places.Given as goal

-- the places so far
abbrev pub invariant-leading : goal.invariant-leading
invariant-leading l = l.led ≡ map (slice_index l.table) (take l.to-index l.places)
