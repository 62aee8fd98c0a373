-- Each method of a class whose instrumented methods are written passes the kind check.
use Rattle.jc_instrument_reread.proofs.AgainLaws.{each_passes}
use Rattle.jc_instrument_reread.proofs.laws.each_method_passes_again.Goals as goal

pub returns : goal.returns
returns c = each_passes
