use Rattle.std.proofs.Common.{rules, sym, ◌∙◌}
use Rattle.jc_command_run.specs.RunStore.{threads_of}
use Rattle.jc_command_run.proofs.EntryLaws.{none_without}
use Rattle.jc_command_work.specs.Answered.{writes_seen}
use Rattle.jc_command_dumped.specs.DumpedAnswers.{Taken}
use Rattle.jc_command_dumped.specs.OptionsSeen.{dumping_seen}
use Rattle.jc_command_dumped.proofs.AnswerLaws.{no_dumps, lacking}
use Rattle.jc_command_dumped.proofs.WriteLaws.{written}
use Rattle.jc_command_dumped.proofs.answer.dumped_writes.Goals as goal

pub returns-in-Some : goal.returns-in-Some
returns-in-Some g c =
    (no_dumps, lacking (dumping_seen c.args.options.now) c.args.plan.now c.args.program.now c.in-Some.line (sym c.in-Some.is ∙ c.line_without_entry.ensures))

pub returns-in_err-ran : goal.returns-in_err-ran
returns-in_err-ran g c = (no_dumps, search rules)

pub returns-in_err-taken_writes : goal.returns-in_err-taken_writes
returns-in_err-taken_writes g c = (no_dumps, search rules)

pub returns : goal.returns
returns g c =
    let ran = c.in_ok-ran.ran in
    let taken : Taken = record { dumps = ran.dumps; rest = ran.rest } in
    let plan = c.args.plan.now in
    let program = c.args.program.now in
    let none = none_without program (threads_of plan) (sym c.in_default.is ∙ c.line_without_entry.ensures) in (
      taken,
      record {
        is_taken = λ _. c.in_ok-ran.ensures.taken;
        by_taken = written (dumping_seen c.args.options.now) taken plan program (writes_seen c.in_ok-taken_writes.field-0) ran.text.items none
            c.in_ok-ran.ensures.text c.in_ok-taken_writes.ensures;
      },
    )
