use Rattle.jc_command_work.proofs.Prefix.{ends_front}
use Rattle.jc_command_dumped.specs.DumpedAnswers.{AnswersBy}
use Rattle.jc_headline.proofs.OneCoverLaws.{PlansAreOne}
use Rattle.jc_top.specs.Work.{any_work}
use Rattle.jc_top.proofs.DumpLaws.{any_is_work, any_ends}
use Rattle.jc_top.proofs.RunLaws.{runs_once}
use Rattle.jc_top.proofs.WorkLaws.{has_the_work}
use Rattle.jc_top.proofs.laws.each_run_leaves_a_front_of_its_work.Goals as goal

pub returns : goal.returns
returns c landed taken words run =
    let laws = c.each_text_is_a_plan_or_has_a_first_unfit_line.ensures in
    let plans : PlansAreOne = record { each = laws.each; apart = laws.apart; one_plan = laws.one_plan; one_line = laws.one_line } in
    let runs = runs_once (AnswersBy taken) c.a_run_has_an_answer.ensures c.a_monitored_run_has_an_answer.ensures
    (c.a_dumped_run_has_one_answer_by_its_dumps.ensures.one taken) in
    let is_work = any_is_work taken words landed run.old run.work run.is_work in
    let ends = any_ends taken words landed run.old run.new run.old_counts run.new_counts run.ended run.ends in
    ends_front landed (any_work taken words) run.old run.new run.old_counts run.new_counts run.ended run.told
    (has_the_work landed (AnswersBy taken) runs c.refs_have_an_answer.ensures plans words run.old run.told) run.work is_work ends
