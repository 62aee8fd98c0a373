use Rattle.jc_instrument.proofs.RefusedLaws.{refused_too, analysed_too, accepted_apart}
use Rattle.jc_instrument.proofs.instrumented.reasons_are_in_order.Goals as goal

pub returns : goal.returns
returns c = record { refused = refused_too; analysed = analysed_too; apart = accepted_apart }
