use Rattle.jc_top.specs.Work.{the_work}
use Rattle.jc_top.proofs.FirstWriteLaws.{memory_left}
use Rattle.jc_command_dumped.specs.DumpedAnswers.{DumpedAnswers}
use Rattle.jc_top.proofs.DumpLaws.{dumps_refuse}
use Rattle.jc_top.proofs.WorkLaws.{last_the_work, own_ends}
use Rattle.jc_top.proofs.laws.want_of_memory_leaves_what_was_or_first_writes.Goals as goal

pub returns : goal.returns
returns c landed taken words old new f g first ends =
    memory_left landed (the_work taken words) (last_the_work (DumpedAnswers taken) words first) old
    (own_ends (DumpedAnswers taken) (dumps_refuse taken) words) new f g ends
