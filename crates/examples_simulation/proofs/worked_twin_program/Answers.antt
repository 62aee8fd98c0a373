use Rattle.examples_simulation.proofs.TwinExampleLaws.{is_twin}
use Rattle.examples_simulation.proofs.worked_twin_program.Goals as goal

pub returns : goal.returns
returns c = record { twin = is_twin }
