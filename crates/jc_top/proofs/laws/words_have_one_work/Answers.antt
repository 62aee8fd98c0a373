use Rattle.jc_command_work.proofs.Prefix.{some_work, one_work}
use Rattle.jc_command_dumped.specs.DumpedAnswers.{AnswersBy, DumpedAnswers}
use Rattle.jc_headline.proofs.OneCoverLaws.{PlansAreOne}
use Rattle.jc_top.specs.Work.{any_work}
use Rattle.jc_top.proofs.DumpLaws.{any_within, same_words}
use Rattle.jc_top.proofs.RunLaws.{runs_once}
use Rattle.jc_top.proofs.WorkLaws.{has_the_work}
use Rattle.jc_top.proofs.laws.words_have_one_work.Goals as goal

pub returns-clause-some : goal.returns-clause-some
returns-clause-some c landed taken words w told =
    let laws = c.each_text_is_a_plan_or_has_a_first_unfit_line.ensures in
    let plans : PlansAreOne = record { each = laws.each; apart = laws.apart; one_plan = laws.one_plan; one_line = laws.one_line } in
    let runs = runs_once (AnswersBy taken) c.a_run_has_an_answer.ensures c.a_monitored_run_has_an_answer.ensures
    (c.a_dumped_run_has_one_answer_by_its_dumps.ensures.one taken) in
    some_work landed (any_work taken words) w (has_the_work landed (AnswersBy taken) runs c.refs_have_an_answer.ensures plans words w told)

pub returns-clause-one : goal.returns-clause-one
returns-clause-one c landed taken words w a b told p q =
    let laws = c.each_text_is_a_plan_or_has_a_first_unfit_line.ensures in
    let plans : PlansAreOne = record { each = laws.each; apart = laws.apart; one_plan = laws.one_plan; one_line = laws.one_line } in
    let runs = runs_once (AnswersBy taken) c.a_run_has_an_answer.ensures c.a_monitored_run_has_an_answer.ensures
    (c.a_dumped_run_has_one_answer_by_its_dumps.ensures.one taken) in
    one_work landed (any_work taken words) w (has_the_work landed (AnswersBy taken) runs c.refs_have_an_answer.ensures plans words w told) a b p q

pub returns-clause-dumps : goal.returns-clause-dumps
returns-clause-dumps c taken words steps o is = any_within taken words steps o is

pub returns-clause-plain : goal.returns-clause-plain
returns-clause-plain c taken other words steps o none is = same_words (AnswersBy taken) (DumpedAnswers other) words none steps o is
