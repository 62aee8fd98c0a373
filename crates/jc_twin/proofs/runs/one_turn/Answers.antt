use Rattle.jc_twin_simulation.proofs.ProgramRunLaws.{begins_in_mid, turns_keep_mid}
use Rattle.jc_twin.proofs.runs.one_turn.Goals as goal

pub returns : goal.returns
returns c = record { begin = begins_in_mid c.args.before.now c.args.after.now; turn = turns_keep_mid c.args.before.now c.args.after.now }
