use Rattle.std.proofs.Common.{◌≡◌, [], length, All}
use Rattle.jc_monitor_world.specs.Kept.{FramesSeen}
use Rattle.jc_monitor_world.proofs.monitor_world.no_frames.Given as goal

abbrev pub invariant-making : goal.invariant-making
invariant-making l = record {
  count : length l.frames.items ≡ l.k;
  none : All (λ (f : FramesSeen). f.frames ≡ []) l.frames.items;
}
