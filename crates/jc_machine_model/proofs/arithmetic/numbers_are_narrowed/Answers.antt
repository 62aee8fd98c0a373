use Rattle.jc_machine_model.proofs.ArithmeticLaws.{narrows, converts}
use Rattle.jc_machine_model.proofs.arithmetic.numbers_are_narrowed.Goals as goal

pub returns-clause-stored : goal.returns-clause-stored
returns-clause-stored c = narrows

pub returns-clause-converted : goal.returns-clause-converted
returns-clause-converted c = converts
