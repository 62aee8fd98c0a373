use Rattle.jc_command_words.proofs.CommandLaws.{one_command, some_or_none}
use Rattle.jc_command_words.proofs.read.each_list_of_words_calls_one_command.Goals as goal

pub returns-clause-one : goal.returns-clause-one
returns-clause-one c words a b m n = one_command words a b m n

pub returns-clause-some : goal.returns-clause-some
returns-clause-some c words = some_or_none words
