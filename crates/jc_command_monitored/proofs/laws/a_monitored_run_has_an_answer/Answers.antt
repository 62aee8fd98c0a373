use Rattle.jc_command_monitored.proofs.AnswerLaws.{one_answer}
use Rattle.jc_command_monitored.proofs.laws.a_monitored_run_has_an_answer.Goals as goal

pub returns : goal.returns
returns c =
    let plans = c.each_text_is_a_plan_or_has_a_first_unfit_line.ensures in
    one_answer (record { apart = plans.apart; one_plan = plans.one_plan; one_line = plans.one_line }) plans.each
