use Rattle.jc_link_programs.proofs.AnswerLaws.{program_answered}
use Rattle.jc_link_programs.proofs.linking.link_or_clash.Goals as goal

pub returns-clause-accepted : goal.returns-clause-accepted
returns-clause-accepted c = program_answered c.args.files.now c.answer.result c.answer.ensures
