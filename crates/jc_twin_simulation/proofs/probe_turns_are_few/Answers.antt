use Rattle.jc_twin_simulation.proofs.ProgramRunLaws.{probe_turns_are_few, probe_turns_are_fewer}
use Rattle.jc_twin_simulation.proofs.probe_turns_are_few.Goals as goal

pub returns : goal.returns
returns c = record { most = probe_turns_are_few; by_constant = probe_turns_are_fewer }
