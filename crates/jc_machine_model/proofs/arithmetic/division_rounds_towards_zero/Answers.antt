use Rattle.jc_machine_model.proofs.ArithmeticLaws.{ints_divide, longs_divide, by_zero, least_by_minus_one}
use Rattle.jc_machine_model.proofs.arithmetic.division_rounds_towards_zero.Goals as goal

pub returns-clause-ints : goal.returns-clause-ints
returns-clause-ints c = ints_divide

pub returns-clause-longs : goal.returns-clause-longs
returns-clause-longs c = longs_divide

pub returns-clause-zero : goal.returns-clause-zero
returns-clause-zero c = by_zero

pub returns-clause-least : goal.returns-clause-least
returns-clause-least c = least_by_minus_one
