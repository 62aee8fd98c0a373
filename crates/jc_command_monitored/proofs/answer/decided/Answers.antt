use Rattle.std.proofs.lemmas.Result.{err_from_is_err_and}
use Rattle.jc_command_work.specs.Seen.{stop_seen}
use Rattle.jc_command_run.proofs.DecidedLaws.{planned_stops, program_decides}
use Rattle.jc_command_monitored.specs.MonitoredAnswers.{IsMonitoredAnswer}
use Rattle.jc_command_monitored.proofs.FramelessLaws.{frameless_makes}
use Rattle.jc_command_monitored.proofs.answer.decided.Goals as goal

pub returns-in_err-planned : goal.returns-in_err-planned
returns-in_err-planned g c =
    let p = err_from_is_err_and c.from_residual.result c.from_residual.ensures.1 in
    rw (p.1, p.2) (planned_stops (IsMonitoredAnswer c.args.options.now.plan.now c.args.options.now.destfile.now) c.args.options.now.plan.now
    c.args.inputs.now.paths c.args.plan_text.now c.args.inputs.now.texts (stop_seen c.in_err-planned.field-0.0) c.in_err-planned.ensures.refused)

pub returns : goal.returns
returns g c =
    let plan = c.args.options.now.plan.now in
    let exec = c.args.options.now.destfile.now in
    let planned = c.in_ok-planned in
    program_decides (IsMonitoredAnswer plan exec) plan c.args.inputs.now.paths c.args.plan_text.now c.args.inputs.now.texts
    planned.planned.plan planned.ensures.plan.0 planned.planned.program planned.ensures.program.0
    (frameless_makes plan exec planned.planned.plan planned.planned.program) c.monitored_writes.result c.monitored_writes.ensures
