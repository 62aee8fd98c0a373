use Rattle.std.proofs.Common.{◌∙◌, ap, sym, option_copied}
use Rattle.jc_kinds.proofs.FrameLaws.{frame_numbered}
use Rattle.jc_refs_check.specs.SuitedFlow.{suits_there}
use Rattle.jc_refs_check.proofs.flow.suits_frame.Goals as goal

pub returns-in-Some : goal.returns-in-Some
returns-in-Some c = c.suits_state.ensures ∙ ap (suits_there c.args.classes.now.names c.args.state.now) c.in-Some.ensures

pub returns-in-None : goal.returns-in-None
returns-in-None c = ap (suits_there c.args.classes.now.names c.args.state.now) c.in-None.ensures

pub suits_state-requires-clause-want : goal.suits_state-requires-clause-want
suits_state-requires-clause-want c =
    frame_numbered _ c.args.body.now.frames c.requires.frames c.args.at c.in-Some.frame.now (sym c.frame_at.ensures ∙ ap option_copied c.in-Some.is)
