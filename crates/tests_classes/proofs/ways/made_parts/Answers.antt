use Rattle.jc_methods.proofs.NumberedLaws.{grown_count, frames_numbered}
use Rattle.tests_classes.proofs.ways.made_parts.Goals as goal

pub emit_parts-requires-clause-frames : goal.emit_parts-requires-clause-frames
emit_parts-requires-clause-frames c =
    frames_numbered _ _ c.args.body.now.frames (grown_count c.args.names.now c.states.new.names c.in_ok-states.ensures.names) c.requires.frames
