use Rattle.std.proofs.Common.{length}
use Rattle.jc_command_words.proofs.reader.+told.Given as goal

abbrev pub decreases-told : goal.decreases-told
decreases-told l = length l.options.now
