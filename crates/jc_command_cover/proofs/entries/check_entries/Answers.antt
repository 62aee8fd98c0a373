use Rattle.jc_command_run.specs.RunStore.{threads_of}
use Rattle.jc_command_run.proofs.EntryLaws.{has_few, none_without}
use Rattle.jc_command_cover.proofs.EntryLaws.{entries_there, entry_end}
use Rattle.jc_command_cover.proofs.entries.check_entries.Goals as goal

pub line_without_entry-requires : goal.line_without_entry-requires
line_without_entry-requires c = has_few c.args.program.now c.requires

pub returns-in-None : goal.returns-in-None
returns-in-None c =
    let none = none_without c.args.program.now (threads_of c.args.plan.now) c.in-None.ensures in
    record { entries = none; decides = entries_there c.args.program.now c.args.plan.now none }

pub returns-in-Some : goal.returns-in-Some
returns-in-Some c = record { entries = tt; decides = entry_end c.args.program.now c.args.plan.now c.args.path.now c.in-Some.line c.in-Some.ensures }
