use Rattle.jc_twin_simulation.proofs.ProgramRunLaws.{have_sides}
use Rattle.jc_twin_simulation.proofs.each_method_has_its_side.Goals as goal

pub returns : goal.returns
returns c = have_sides
