use Rattle.jc_command_refs.proofs.OneAnswerLaws.{one_answer}
use Rattle.jc_command_refs.proofs.laws.refs_have_an_answer.Goals as goal

pub returns : goal.returns
returns c = one_answer
