use Rattle.jc_frames.specs.Running.{before, found_as}
use Rattle.jc_frames.specs.TableReading.{frame_item_at}
use Rattle.jc_frames.proofs.WalkLaws.{reads_as}
use Rattle.jc_frames.proofs.walk.next_frame.Goals as goal

pub returns-in-Ok-clause-says : goal.returns-in-Ok-clause-says
returns-in-Ok-clause-says c names =
    let g = c.args.method.now in
    reads_as g (before g.pool names c.args.running.now) (frame_item_at c.args.reader.now.left) c.in-Ok.item c.frame_item.new.reader.left
    (found_as g names c.follow.new.self) c.follow.result c.in-Ok.ensures.gives (c.follow.ensures.says names)
