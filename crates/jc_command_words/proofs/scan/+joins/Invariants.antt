use Rattle.std.proofs.Common.{length}
use Rattle.jc_command_words.proofs.scan.+joins.Given as goal

abbrev pub decreases-joins : goal.decreases-joins
decreases-joins l = length l.name.now
