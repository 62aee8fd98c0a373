use Rattle.jc_machine_laws.proofs.WorldLaws.{run_fits}
use Rattle.jc_machine_laws.proofs.laws.each_world_of_a_run_fits.Goals as goal

pub returns : goal.returns
returns c = run_fits
