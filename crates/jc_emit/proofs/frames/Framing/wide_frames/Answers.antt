use Rattle.jc_emit.specs.Emission.{wide_frames_at}
use Rattle.jc_emit.proofs.FramingLaws.{piece_more}
use Rattle.jc_emit.proofs.frames.Framing.wide_frames.Goals as goal

pub framing-preserved : goal.framing-preserved
framing-preserved c = λ first given is.
    let f = c.args.self.now in
    piece_more (wide_frames_at f.body.now first f.states.now given) c.framing.at c.framing.frames.items c.put_wide_at.new.frames.items
    (c.framing.invariant first given is) (c.in_ok-put_wide_at.ensures first given is)
