use Rattle.jc_twin_simulation.proofs.ProgramRunLaws.{schedules_are_kept}
use Rattle.jc_twin_simulation.proofs.no_schedule_is_lost.Goals as goal

pub returns : goal.returns
returns c = schedules_are_kept
