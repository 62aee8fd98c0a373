use Rattle.std.proofs.Common.{length}
use Rattle.jc_command_words.proofs.call.+once.Given as goal

abbrev pub decreases-once : goal.decreases-once
decreases-once l = length l.uses.now
