use Rattle.jc_instrument.proofs.twin.twin_from.Goals as goal

pub returns-clause-twin : goal.returns-clause-twin
returns-clause-twin c = c.written_twin.ensures.twin

pub returns-clause-refused : goal.returns-clause-refused
returns-clause-refused c = c.written_twin.ensures.refused
