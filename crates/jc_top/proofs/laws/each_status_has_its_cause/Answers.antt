use Rattle.jc_command_work.proofs.CauseLaws.{cause}
use Rattle.jc_top.specs.Work.{the_work}
use Rattle.jc_command_dumped.specs.DumpedAnswers.{DumpedAnswers}
use Rattle.jc_top.proofs.DumpLaws.{dumps_refuse}
use Rattle.jc_top.proofs.WorkLaws.{own_ends}
use Rattle.jc_top.proofs.laws.each_status_has_its_cause.Goals as goal

pub returns : goal.returns
returns c landed taken words old new f g s ends =
    cause landed (the_work taken words) old new f g s (own_ends (DumpedAnswers taken) (dumps_refuse taken) words) ends
