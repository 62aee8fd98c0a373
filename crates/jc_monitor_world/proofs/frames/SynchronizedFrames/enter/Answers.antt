use Rattle.std.proofs.Common.{◌≡◌, ◌<◌, List, ◌∷◌, length, arith, ◌∙◌, ap, sym}
use Rattle.jc_region.specs.Memory.{allocation_of}
use Rattle.jc_monitor_model.specs.SynchronizedFrames.{SynchronizedFrame}
use Rattle.jc_monitor_world.specs.declared.frames.SynchronizedFrames.TheInside.{Inside}
use Rattle.jc_monitor_world.specs.Seen.{frame_of}
use Rattle.jc_monitor_world.specs.Kept.{FramesSeen, frames_of, AreRoomyFrames}
use Rattle.jc_monitor_world.proofs.SlotLaws.{latest_push, latest_length}
use Rattle.jc_monitor_world.proofs.frames.SynchronizedFrames.enter.Goals as goal

-- there is room for one more
room : (f : Inside) (v : FramesSeen) → AreRoomyFrames f → frames_of f ≡ v → length v.frames < 128 → f.count < 128
room f v roomy view less =
    let long : length v.frames ≡ f.count = ap (λ (w : FramesSeen). length w.frames) (sym view)
    ∙ latest_length frame_of f.slots.items f.count (omega (arith, roomy.slots, roomy.within)) in
    omega (arith, long, less)

pub index_mut-requires : goal.index_mut-requires
index_mut-requires c =
    let less = room c.self.inside c.args.self.now c.self.invariant c.self.view_is c.requires in omega (arith, less, c.self.invariant.slots)

pub overflow_add-self : goal.overflow_add-self
overflow_add-self c = let less = room c.self.inside c.args.self.now c.self.invariant c.self.view_is c.requires in omega (arith, less)

pub returns : goal.returns
returns c =
    let f = c.self.inside in
    let less = room f c.args.self.now c.self.invariant c.self.view_is c.requires in
    ap (λ (frames : List SynchronizedFrame). record { frames = frames; memory = allocation_of f.slots })
    (latest_push frame_of f.slots.items f.count c.args.frame (omega (arith, less, c.self.invariant.slots)))
    ∙ ap (λ (v : FramesSeen). record v { frames = frame_of c.args.frame ∷ v.frames }) c.self.view_is
