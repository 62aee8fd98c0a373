use Rattle.jc_machine_laws.proofs.WorldLaws.{step_fits}
use Rattle.jc_machine_laws.proofs.laws.each_turn_keeps_a_world_fitting.Goals as goal

pub returns : goal.returns
returns c = step_fits
