use Rattle.std.proofs.Common.{◌≡◌, List, ◌++◌, ap, ◌∙◌, subst, append_assoc}
use Rattle.std.specs.Prelude.{OnOk}
use Rattle.jc_methods.specs.Widened.{listed}
use Rattle.jc_methods.specs.declared.body.FrameAt.{FrameAt}
use Rattle.jc_emit.specs.Emission.{frames_at}
use Rattle.jc_emit.specs.Stages.{further_frames_at}
use Rattle.jc_emit.proofs.frames.Framing.put_layout_at.Goals as goal

pub returns : goal.returns
returns c = λ first given is.
    let f = c.args.self.now in
    let further = further_frames_at f.body.now first f.states.now given (listed c.args.wide.now) c.args.at in
    subst (λ (l : List FrameAt). OnOk c.put_further_at.result (c.put_further_at.new.frames.items ≡ l))
    (ap (λ (l : List FrameAt). l ++ further) (c.in_ok-put_at.ensures first given is)
    ∙ append_assoc c.args.frames.now.items (frames_at f.body.now first f.states.now given c.args.at) further)
    (c.put_further_at.ensures first given is)
