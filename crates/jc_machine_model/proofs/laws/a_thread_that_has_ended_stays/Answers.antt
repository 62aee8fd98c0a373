use Rattle.jc_machine_model.proofs.TurnLaws.{ended_stays}
use Rattle.jc_machine_model.proofs.laws.a_thread_that_has_ended_stays.Goals as goal

pub returns : goal.returns
returns c = ended_stays
