use Rattle.std.proofs.Common.{length}
use Rattle.tests_bytes.proofs.codes.+all_near.Given as goal

abbrev pub decreases-all_near : goal.decreases-all_near
decreases-all_near l = length l.code.now
