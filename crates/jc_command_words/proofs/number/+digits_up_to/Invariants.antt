use Rattle.std.proofs.Common.{length}
use Rattle.jc_command_words.proofs.number.+digits_up_to.Given as goal

abbrev pub decreases-digits_up_to : goal.decreases-digits_up_to
decreases-digits_up_to l = length l.digits.now
