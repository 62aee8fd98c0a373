use Rattle.jc_command_words.proofs.RulesLaws.{read_if}
use Rattle.jc_command_words.proofs.rules.rules_in.Goals as goal

pub returns-clause-read : goal.returns-clause-read
returns-clause-read c = read_if c.rules_of.result c.args.text.now c.rules_of.ensures
