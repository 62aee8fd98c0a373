use Rattle.jc_command_work.proofs.AnsweredLaws.{as_many_files}
use Rattle.jc_command_work.proofs.input_files.InputFiles.into_parts.Goals as goal

pub returns-clause-each : goal.returns-clause-each
returns-clause-each c = as_many_files c.self.inside.paths.items c.self.inside.texts.items c.self.invariant
