use Rattle.jc_machine_model.proofs.ArithmeticLaws.{ints_wrap, longs_wrap}
use Rattle.jc_machine_model.proofs.arithmetic.sums_wrap_around.Goals as goal

pub returns-clause-ints : goal.returns-clause-ints
returns-clause-ints c = ints_wrap

pub returns-clause-longs : goal.returns-clause-longs
returns-clause-longs c = longs_wrap
