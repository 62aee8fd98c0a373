use Rattle.std.proofs.Common.{List, map, take, drop, reverse, arith, ◌∙◌, ap}
use Rattle.jc_region.specs.Memory.{allocation_of}
use Rattle.jc_monitor_model.specs.SynchronizedFrames.{SynchronizedFrame}
use Rattle.jc_monitor_world.specs.Seen.{frame_of}
use Rattle.jc_monitor_world.specs.Kept.{FramesSeen}
use Rattle.jc_monitor_world.proofs.SlotLaws.{latest_gone}
use Rattle.jc_monitor_world.proofs.frames.SynchronizedFrames.leave.Goals as goal

pub returns : goal.returns
returns c =
    let f = c.self.inside in
    let items = f.slots.items in
    ap (λ (frames : List SynchronizedFrame). record { frames = frames; memory = allocation_of f.slots })
    (ap (λ n. map frame_of (reverse (take n items))) c.saturating_sub-self-inside.ensures
    ∙ latest_gone frame_of items f.count (record { depth = 0; class = 0 }) (omega (arith, c.self.invariant.slots, c.self.invariant.within)))
    ∙ ap (λ (v : FramesSeen). record v { frames = drop 1 v.frames }) c.self.view_is
