use Rattle.jc_instrument.proofs.OneReasonLaws.{accepted_answered, reason_answered}
use Rattle.jc_instrument.proofs.analysis.analyse.Goals as goal

pub returns-clause-accepted : goal.returns-clause-accepted
returns-clause-accepted c = accepted_answered c.args.bytes.now c.answer.result c.answer.ensures

pub returns-clause-reason : goal.returns-clause-reason
returns-clause-reason c = reason_answered c.args.bytes.now c.answer.result c.answer.ensures
