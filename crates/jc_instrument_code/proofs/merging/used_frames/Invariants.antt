use Rattle.std.proofs.Common.{◌≡◌, take}
use Rattle.jc_methods.specs.Widened.{listed}
use Rattle.jc_layout.specs.Merged.{used_frames}
use Rattle.jc_instrument_code.proofs.merging.used_frames.Given as goal

-- those of the frames so far
abbrev pub invariant-using : goal.invariant-using
invariant-using l = l.used ≡ used_frames (listed l.wide) (take l.frame-index l.frames)
