use Rattle.std.proofs.Common.{◌≡◌, ◌≤◌, ◌+◌, ◌-◌, ◌++◌, length, drop}
use Rattle.jc_layout.specs.Merged.{merged}
use Rattle.jc_instrument_code.proofs.merging.merged_frames.Given as goal

-- the frames that are left, in order, complete all of them
abbrev pub invariant-merging : goal.invariant-merging
invariant-merging l = record {
  at_within : l.at ≤ length l.frames;
  other_within : l.other ≤ length l.others;
  so_far : l.all ++ merged (drop l.at l.frames) (drop l.other l.others) ≡ merged l.frames l.others;
}

abbrev pub decreases-merging : goal.decreases-merging
decreases-merging l = (length l.frames - l.at) + (length l.others - l.other)
