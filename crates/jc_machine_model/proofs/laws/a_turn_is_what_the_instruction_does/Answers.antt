use Rattle.jc_machine_model.proofs.LockedLaws.{step_is_turn_by}
use Rattle.jc_machine_model.proofs.laws.a_turn_is_what_the_instruction_does.Goals as goal

pub returns : goal.returns
returns c = step_is_turn_by
