use Rattle.std.proofs.Common.{Some, map, take, reverse, slice_get, arith, ◌∙◌, ap, sym}
use Rattle.jc_monitor_world.specs.Seen.{frame_of}
use Rattle.jc_monitor_world.specs.Kept.{FramesSeen}
use Rattle.jc_monitor_world.proofs.SlotLaws.{latest_first}
use Rattle.jc_monitor_world.proofs.frames.SynchronizedFrames.deepest.Goals as goal

pub returns-then-self-eq0 : goal.returns-then-self-eq0
returns-then-self-eq0 c =
    let f = c.self.inside in
    ap (λ n. slice_get (map frame_of (reverse (take n f.slots.items))) 0) (sym c.if-self-eq0.true)
    ∙ ap (λ (v : FramesSeen). slice_get v.frames 0) c.self.view_is

pub returns : goal.returns
returns c =
    let f = c.self.inside in
    let test = c.if-self-eq0.false in
    ap (λ x. Some (frame_of x)) c.index.ensures
    ∙ (sym (latest_first frame_of f.slots.items f.count c.index.result.now (omega (arith, test)) (omega (arith, c.self.invariant.slots, c.self.invariant.within)))
    ∙ ap (λ (v : FramesSeen). slice_get v.frames 0) c.self.view_is)
