use Rattle.jc_command_words.proofs.DumpLaws.{no_name}
use Rattle.jc_command_words.proofs.dumps.is_dump_name.Goals as goal

pub returns-in-None : goal.returns-in-None
returns-in-None c = no_name c.args.name.now c.in-None.ensures.cases
