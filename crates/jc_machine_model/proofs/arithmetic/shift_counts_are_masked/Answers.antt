use Rattle.jc_machine_model.proofs.ArithmeticLaws.{ints_shift, longs_shift}
use Rattle.jc_machine_model.proofs.arithmetic.shift_counts_are_masked.Goals as goal

pub returns-clause-ints : goal.returns-clause-ints
returns-clause-ints c = ints_shift

pub returns-clause-longs : goal.returns-clause-longs
returns-clause-longs c = longs_shift
