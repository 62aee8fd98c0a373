use Rattle.jc_twin_simulation.proofs.ProgramRunLaws.{cases_begin_beside, turns_stay_beside, beside_is_same}
use Rattle.jc_twin_simulation.proofs.each_turn_keeps_worlds_side_by_side.Goals as goal

pub returns : goal.returns
returns c = record { begin = cases_begin_beside; turn = turns_stay_beside; same = beside_is_same }
