use Rattle.jc_twin_simulation.proofs.ProgramRunLaws.{begins_in_mid, turns_keep_mid}
use Rattle.jc_twin_simulation.proofs.each_turn_keeps_what_probes_made.Goals as goal

pub returns : goal.returns
returns c = record { begin = begins_in_mid; turn = turns_keep_mid }
