use Rattle.jc_twin_simulation.proofs.ProgramRunLaws.{runs_are_same}
use Rattle.jc_twin.proofs.runs.same_run.Goals as goal

pub returns : goal.returns
returns c = λ marks twin are entries begin. runs_are_same c.args.before.now c.args.after.now marks twin are c.args.case.now entries begin
