use Rattle.jc_command_dumped.proofs.AnswerLaws.{one_answer, by_taken}
use Rattle.jc_command_dumped.proofs.laws.a_dumped_run_has_one_answer_by_its_dumps.Goals as goal

pub returns-clause-one : goal.returns-clause-one
returns-clause-one c =
    let plans = c.each_text_is_a_plan_or_has_a_first_unfit_line.ensures in
    one_answer (record { apart = plans.apart; one_plan = plans.one_plan; one_line = plans.one_line }) plans.each

pub returns-clause-by_them : goal.returns-clause-by_them
returns-clause-by_them c taken d paths texts answer is = by_taken taken d paths texts answer is
