use Rattle.jc_instrument.proofs.GrownPoolLaws.{pool_grown, one_taking}
use Rattle.jc_instrument.proofs.instrumented.each_pool_grows.Goals as goal

pub returns : goal.returns
returns c = record { grown = pool_grown; one = one_taking }
