use Rattle.jc_command_words.specs.Words.{words_of}
use Rattle.jc_top.proofs.BoundLaws.{read_bounded}
use Rattle.jc_top.proofs.run.read_command.Goals as goal

pub returns-clause-bounded : goal.returns-clause-bounded
returns-clause-bounded c = read_bounded (words_of c.args.words.now) c.read_words.result c.read_words.ensures.read
