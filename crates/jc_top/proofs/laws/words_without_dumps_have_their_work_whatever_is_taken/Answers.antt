use Rattle.jc_top.proofs.DumpLaws.{same_the_work, same_ends}
use Rattle.jc_top.proofs.laws.words_without_dumps_have_their_work_whatever_is_taken.Goals as goal

pub returns-clause-work : goal.returns-clause-work
returns-clause-work c taken other words steps o none is = same_the_work taken other words none steps o is

pub returns-clause-ends : goal.returns-clause-ends
returns-clause-ends c landed taken other words old new f g s none ends = same_ends taken other words none landed old new f g s ends
