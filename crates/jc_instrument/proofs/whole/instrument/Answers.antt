use Rattle.std.proofs.Common.{arith}
use Rattle.jc_bytes.proofs.OneTextLaws.{are_bytes}
use Rattle.jc_instrument.proofs.VerifiedLaws.{answer_verified}
use Rattle.jc_instrument.proofs.InstrumentingLaws.{accepted_instrumented, refused_for}
use Rattle.jc_instrument.proofs.whole.instrument.Goals as goal

pub returns-clause-verified : goal.returns-clause-verified
returns-clause-verified c =
    answer_verified c.args.bytes.now (are_bytes c.args.bytes.now (λ i. omega (arith, c.type_inv.bytes i))) c.requires.size c.whole.result
    c.whole.ensures.made

pub returns-clause-accepted : goal.returns-clause-accepted
returns-clause-accepted c = accepted_instrumented c.args.bytes.now c.whole.result c.whole.ensures.refused

pub returns-clause-reason : goal.returns-clause-reason
returns-clause-reason c = refused_for c.args.bytes.now c.whole.result c.whole.ensures.made c.whole.ensures.refused
