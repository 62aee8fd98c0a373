use Rattle.std.proofs.Common.{sym, ◌∙◌}
use Rattle.jc_kinds.proofs.MissingLaws.{frame_missing}
use Rattle.jc_kinds.proofs.missing.is_missing.Goals as goal

pub returns-then-needs_frame : goal.returns-then-needs_frame
returns-then-needs_frame c = frame_missing c.args.framed.now.body.now c.args.at c.frame_at.result c.is_none.result
    (sym c.needs_frame.ensures ∙ c.if-needs_frame.true) c.frame_at.ensures c.is_none.ensures
