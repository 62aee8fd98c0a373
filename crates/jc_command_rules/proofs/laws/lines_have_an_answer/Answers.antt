use Rattle.jc_command_rules.proofs.AnswerLaws.{lines_has_one, lines_refuses}
use Rattle.jc_command_rules.proofs.laws.lines_have_an_answer.Goals as goal

pub returns-clause-one : goal.returns-clause-one
returns-clause-one c = lines_has_one

pub returns-clause-refuses : goal.returns-clause-refuses
returns-clause-refuses c = lines_refuses
