use Rattle.jc_frames.proofs.WrittenLaws.{written_back}
use Rattle.jc_frames.proofs.laws.written_frames_are_read_back.Goals as goal

pub returns : goal.returns
returns c = written_back
