use Rattle.std.proofs.Common.{◌+◌, take, sym, subst, rules}
use Rattle.jc_emit.specs.Straddling.{FramesStraddle, IsFirstOf}
use Rattle.jc_emit.proofs.StraddlingLaws.{next_frame, all_frames}
use Rattle.jc_emit.proofs.straddling.first_frame.Goals as goal

pub seeking-preserved : goal.seeking-preserved
seeking-preserved c =
    subst (IsFirstOf (FramesStraddle c.args.arg_slots (take (c.seeking.frame-index + 1) c.args.frames.now))) (sym c.lesser-first.ensures)
    (next_frame c.args.arg_slots c.args.frames.now c.seeking.frame-index c.frame-item.result c.seeking.first c.frame_place.result
    (search rules) (search rules) c.seeking.invariant c.frame_place.ensures)

pub returns : goal.returns
returns c = all_frames c.args.arg_slots c.args.frames.now c.seeking.frame-index c.seeking.first (search rules) c.seeking.invariant
