use Rattle.jc_command_rules.proofs.AnswerLaws.{check_has_one, check_refuses}
use Rattle.jc_command_rules.proofs.laws.checks_have_an_answer.Goals as goal

pub returns-clause-one : goal.returns-clause-one
returns-clause-one c = check_has_one

pub returns-clause-refuses : goal.returns-clause-refuses
returns-clause-refuses c = check_refuses
