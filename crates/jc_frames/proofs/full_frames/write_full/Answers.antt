use Rattle.std.proofs.Common.{length, map}
use Rattle.jc_bytes.proofs.EachLaws.{all_weaker}
use Rattle.jc_methods.specs.declared.body.FrameAt.{FrameAt}
use Rattle.jc_methods.specs.VerificationTypes.{type_state_at, IsNumberedState}
use Rattle.jc_frames.specs.FullTable.{FitsFull, named_by_all}
use Rattle.jc_frames.proofs.TakenLaws.{all_stand}
use Rattle.jc_frames.proofs.full_frames.write_full.Goals as goal

pub take_classes-requires : goal.take_classes-requires
take_classes-requires c =
    all_weaker (FitsFull (length c.args.starts.now) (length c.args.names.now)) (λ (f : FrameAt). IsNumberedState (length c.args.names.now) f.state)
    (λ f fits. fits.numbered) c.args.frames.now c.requires.each

pub write_taken-requires-clause-stand : goal.write_taken-requires-clause-stand
write_taken-requires-clause-stand c =
    all_stand c.args.pool.now c.take_classes.new.pool (named_by_all (map (type_state_at c.args.names.now) c.args.frames.now)) c.in_ok-take_classes.ensures.classes
