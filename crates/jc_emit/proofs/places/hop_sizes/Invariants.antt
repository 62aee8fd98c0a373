use Rattle.std.proofs.Common.{◌≡◌, ◌≤◌, ◌*◌, take}
use Rattle.std.specs.List.{sum_by}
use Rattle.jc_emit.specs.Sizes.{hop_size}
use Rattle.jc_emit.proofs.places.hop_sizes.Given as goal

-- the probes so far
abbrev pub invariant-adding : goal.invariant-adding
invariant-adding l = record {
  total : l.size ≡ sum_by hop_size (take l.id-index l.ids);
  small : l.size ≤ 5 * l.id-index;
}
