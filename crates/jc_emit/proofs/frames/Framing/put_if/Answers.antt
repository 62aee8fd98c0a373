use Rattle.std.proofs.Common.{◌∙◌}
use Rattle.jc_emit.proofs.FramingLaws.{one_put}
use Rattle.jc_emit.proofs.frames.Framing.put_if.Goals as goal

pub returns : goal.returns
returns c = λ first given is.
    c.in_ok-push.ensures.items
    ∙ one_put c.args.frames.now.items c.args.test c.args.place c.in_ok-state.state _ c.if-not-test.false (c.in_ok-state.ensures first given is)
