use Rattle.std.proofs.Common.{length}
use Rattle.jc_outside.proofs.host_files.write_on.Given as goal

abbrev pub decreases-writing : goal.decreases-writing
decreases-writing g l = length l.rest
