use Rattle.jc_machine_laws.proofs.WorldLaws.{step_hits}
use Rattle.jc_machine_laws.proofs.laws.each_hit_is_of_a_probe.Goals as goal

pub returns : goal.returns
returns c = step_hits
