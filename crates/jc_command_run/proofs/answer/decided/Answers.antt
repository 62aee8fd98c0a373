use Rattle.std.proofs.lemmas.Result.{err_from_is_err_and}
use Rattle.jc_command_work.specs.Seen.{stop_seen}
use Rattle.jc_command_run.specs.RunAnswers.{IsRunAnswer}
use Rattle.jc_command_run.proofs.DecidedLaws.{planned_stops, program_runs}
use Rattle.jc_command_run.proofs.answer.decided.Goals as goal

pub returns-in_err-planned : goal.returns-in_err-planned
returns-in_err-planned g c =
    let p = err_from_is_err_and c.from_residual.result c.from_residual.ensures.1 in
    rw (p.1, p.2) (planned_stops (IsRunAnswer c.args.options.now.plan.now c.args.options.now.destfile.now) c.args.options.now.plan.now
    c.args.inputs.now.paths c.args.plan_text.now c.args.inputs.now.texts (stop_seen c.in_err-planned.field-0.0) c.in_err-planned.ensures.refused)

pub returns : goal.returns
returns g c =
    let planned = c.in_ok-planned in
    program_runs c.args.options.now.plan.now c.args.options.now.destfile.now c.args.inputs.now.paths c.args.plan_text.now c.args.inputs.now.texts
    planned.planned.plan planned.ensures.plan.0 planned.planned.program planned.ensures.program.0 c.run_writes.result c.run_writes.ensures
