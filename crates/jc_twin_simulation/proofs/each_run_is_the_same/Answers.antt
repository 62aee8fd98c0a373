use Rattle.jc_twin_simulation.proofs.ProgramRunLaws.{runs_are_same}
use Rattle.jc_twin_simulation.proofs.each_run_is_the_same.Goals as goal

pub returns : goal.returns
returns c = runs_are_same
