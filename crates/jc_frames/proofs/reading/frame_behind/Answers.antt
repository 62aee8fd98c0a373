use Rattle.std.proofs.Common.{refl}
use Rattle.jc_frames.proofs.ReadingLaws.{refused_here}
use Rattle.jc_frames.proofs.reading.frame_behind.Goals as goal

pub returns-in-NoFrame-clause-gives : goal.returns-in-NoFrame-clause-gives
returns-in-NoFrame-clause-gives c =
    rw c.in-NoFrame.is (c.args.reader.now.left, refl, refused_here c.args.reader.now c.not_a_class.result c.place.result c.not_a_class.ensures c.place.ensures)
