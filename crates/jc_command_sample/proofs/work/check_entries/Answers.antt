use Rattle.std.proofs.Common.{sym, ◌∙◌}
use Rattle.jc_command_sample.proofs.LineLaws.{have_entries, lacks_entry}
use Rattle.jc_command_sample.proofs.work.check_entries.Goals as goal

pub returns-in-None : goal.returns-in-None
returns-in-None c = have_entries c.args.program.now c.args.plan.now (sym c.in-None.is ∙ c.line_without_entry.ensures)

pub returns-in-Some : goal.returns-in-Some
returns-in-Some c = lacks_entry c.args.program.now c.args.plan.now c.in-Some.line (sym c.in-Some.is ∙ c.line_without_entry.ensures)
