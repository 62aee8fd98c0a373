use Rattle.std.proofs.Common.{ap, ◌∙◌}
use Rattle.jc_command_run.specs.Texts.{end_texts}
use Rattle.jc_command_run.proofs.EntryLaws.{have_entries}
use Rattle.jc_command_run.proofs.TextLaws.{same_texts}
use Rattle.jc_command_dumped.proofs.program.run_dumped.Goals as goal

pub run_dumping-requires-clause-entries : goal.run_dumping-requires-clause-entries
run_dumping-requires-clause-entries g c _ _ = have_entries c.args.program.now c.args.plan.now c.requires.entries

pub returns-clause-text : goal.returns-clause-text
returns-clause-text g c =
    c.in_ok-text.ensures ∙ ap (end_texts c.args.program.now 1) (c.as_slice.ensures ∙ c.in_ok-dumped.ensures.ends)
    ∙ same_texts c.args.program.now 1 c.args.plan.now.cases
