use Rattle.std.proofs.Common.{◌≡◌, map, take}
use Rattle.jc_frames.specs.declared.method.Value.TheVariants as values
use Rattle.jc_frames.proofs.running.values_of_locals.Given as goal

abbrev pub invariant-listing : goal.invariant-listing
invariant-listing l = l.values.items ≡ map values.Of (take l.kind-index l.kind-items)
