use Rattle.jc_twin_simulation.proofs.ProgramRunLaws.{schedules_are_kept}
use Rattle.jc_twin.proofs.runs.each_schedule.Goals as goal

pub returns : goal.returns
returns c = λ marks twin are entries begin. schedules_are_kept c.args.before.now c.args.after.now marks twin are c.args.case.now entries begin
