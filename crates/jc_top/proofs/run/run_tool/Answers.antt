use Rattle.std.proofs.Common.{sym}
use Rattle.jc_command_words.specs.Words.{words_of}
use Rattle.jc_command_words.specs.Seen.{command_seen}
use Rattle.jc_command_dumped.specs.DumpedAnswers.{DumpedAnswers}
use Rattle.jc_top.proofs.CommandLaws.{called_ends, usage_ends, memory_ends}
use Rattle.jc_top.proofs.HeadlineLaws.{keeps_headline}
use Rattle.jc_top.specs.Work.{nothing_taken, the_work}
use Rattle.jc_top.proofs.run.run_tool.Goals as goal

pub returns-in-Ok : goal.returns-in-Ok
returns-in-Ok g c =
    let words = words_of c.args.words.now in
    let taken = c.run_command.ensures.0 in
    let ran = c.run_command.ensures.1 in
    let Dumps = DumpedAnswers taken in
    let ends = called_ends Dumps g.F.Files.landed words _ _ _ _ c.run_command.result (command_seen c.in-Ok.command) c.in-Ok.ensures.read ran.1 in
    rw (c.files-1.given.1 (sym ran.0.0), c.out-1.given.1 (sym ran.0.1), c.err-1.given.1 (sym ran.0.2))
    (record { work = (taken, ends); headline = keeps_headline Dumps g.F.Files.landed words _ _ _ _ c.run_command.result ends })

pub returns-in-Err-Memory : goal.returns-in-Err-Memory
returns-in-Err-Memory g c =
    let words = words_of c.args.words.now in
    let ends = memory_ends g.F.Files.landed (the_work nothing_taken words) _ _ in
    record { work = (nothing_taken, ends); headline = keeps_headline (DumpedAnswers nothing_taken) g.F.Files.landed words _ _ _ _ _ ends }

pub returns-in-Err-Said : goal.returns-in-Err-Said
returns-in-Err-Said g c =
    let F = g.F.Files in
    let O = g.O.Sink in
    let words = words_of c.args.words.now in
    let none = rw c.in-Err-Said.field-0-is at c.in-Err-Said.ensures.read in
    let ends = usage_ends (DumpedAnswers nothing_taken) F.landed words _ _ _ _ c.report_usage.result none
    (c.report_usage.ensures.does (F.contents c.args.files.now) (F.failed_path c.args.files.now) (O.told c.args.out.now) (F.read_faults c.args.files.now)
    (F.write_faults c.args.files.now) (O.faults c.args.out.now)) in
    record { work = (nothing_taken, ends); headline = keeps_headline (DumpedAnswers nothing_taken) F.landed words _ _ _ _ c.report_usage.result ends }
