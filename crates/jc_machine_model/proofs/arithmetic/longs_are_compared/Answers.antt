use Rattle.jc_machine_model.proofs.ArithmeticLaws.{compares_is}
use Rattle.jc_machine_model.proofs.arithmetic.longs_are_compared.Goals as goal

pub returns : goal.returns
returns c = compares_is
