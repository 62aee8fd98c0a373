use Rattle.jc_frames.proofs.WrittenLaws.{can_be_written}
use Rattle.jc_frames.proofs.laws.frames_of_a_body_can_be_written.Goals as goal

pub returns : goal.returns
returns c = can_be_written
