use Rattle.std.proofs.lemmas.Result.{err_from_is_err_and}
use Rattle.jc_command_work.specs.Seen.{stop_seen}
use Rattle.jc_command_run.proofs.DecidedLaws.{planned_stops, program_decides}
use Rattle.jc_command_dumped.specs.DumpedAnswers.{IsDumpedAnswer}
use Rattle.jc_command_dumped.specs.OptionsSeen.{dumping_seen}
use Rattle.jc_command_dumped.proofs.AnswerLaws.{no_dumps}
use Rattle.jc_command_dumped.proofs.FramelessLaws.{frameless_makes}
use Rattle.jc_command_dumped.proofs.answer.decided.Goals as goal

pub returns-in_err-planned : goal.returns-in_err-planned
returns-in_err-planned g c =
    let p = err_from_is_err_and c.from_residual.result c.from_residual.ensures.1 in (
      no_dumps,
      rw (p.1, p.2) (planned_stops (IsDumpedAnswer no_dumps (dumping_seen c.args.options.now)) c.args.options.now.plan.now
          c.args.inputs.now.paths c.args.plan_text.now c.args.inputs.now.texts (stop_seen c.in_err-planned.field-0.0) c.in_err-planned.ensures.refused),
    )

pub returns : goal.returns
returns g c =
    let d = dumping_seen c.args.options.now in
    let planned = c.in_ok-planned in
    let written = c.dumped_writes.ensures in (
      written.0,
      program_decides (IsDumpedAnswer written.0 d) c.args.options.now.plan.now c.args.inputs.now.paths c.args.plan_text.now c.args.inputs.now.texts
          planned.planned.plan planned.ensures.plan.0 planned.planned.program planned.ensures.program.0
          (frameless_makes planned.planned.program planned.planned.plan written.0 d) c.dumped_writes.result written.1,
    )
