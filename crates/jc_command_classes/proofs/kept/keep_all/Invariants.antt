use Rattle.std.proofs.Common.{length}
use Rattle.jc_command_classes.proofs.KeptLaws.{Keeping}
use Rattle.jc_command_classes.proofs.kept.keep_all.Given as goal

-- no answer so far stops the command, and what was seen is kept
abbrev pub invariant-keeping : goal.invariant-keeping
invariant-keeping g l = Keeping l.inputs.paths l.fn.answers.items (length l.yielded) l.kept
