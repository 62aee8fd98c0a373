use Rattle.std.proofs.Common.{length}
use Rattle.tests_bytes.proofs.codes.+start_at.Given as goal

abbrev pub decreases-start_at : goal.decreases-start_at
decreases-start_at l = length l.code.now
