use Rattle.jc_methods.specs.Widened.{listed}
use Rattle.jc_emit.specs.Stages.{layout_frames_at}
use Rattle.jc_emit.proofs.FramingLaws.{piece_more}
use Rattle.jc_emit.proofs.frames.Framing.layout_frames.Goals as goal

pub framing-preserved : goal.framing-preserved
framing-preserved c = λ first given is.
    let f = c.args.self.now in
    piece_more (layout_frames_at f.body.now first f.states.now given (listed c.args.wide.now)) c.framing.at c.framing.frames.items c.put_layout_at.new.frames.items
    (c.framing.invariant first given is) (c.in_ok-put_layout_at.ensures first given is)
