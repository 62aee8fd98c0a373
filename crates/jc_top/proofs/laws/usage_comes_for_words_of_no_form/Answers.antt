use Rattle.jc_command_work.specs.declared.status.Status.TheVariants as status
use Rattle.jc_command_work.proofs.CauseLaws.{cause}
use Rattle.jc_top.specs.Work.{the_work}
use Rattle.jc_command_dumped.specs.DumpedAnswers.{DumpedAnswers}
use Rattle.jc_top.proofs.DumpLaws.{dumps_refuse}
use Rattle.jc_top.proofs.WorkLaws.{own_ends, misused_none, no_form_ends}
use Rattle.jc_top.proofs.laws.usage_comes_for_words_of_no_form.Goals as goal

pub returns-clause-only : goal.returns-clause-only
returns-clause-only c landed taken words old new f g ends =
    let so = cause landed (the_work taken words) old new f g status.Usage (own_ends (DumpedAnswers taken) (dumps_refuse taken) words) ends in
    misused_none (DumpedAnswers taken) (dumps_refuse taken) words so.came.steps so.came.comes

pub returns-clause-always : goal.returns-clause-always
returns-clause-always c landed taken words old new f g s none ends = no_form_ends (DumpedAnswers taken) landed words none old new f g s ends
