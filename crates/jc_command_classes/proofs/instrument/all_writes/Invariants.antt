use Rattle.std.proofs.Common.{length}
use Rattle.jc_command_classes.proofs.InstrumentLaws.{AreWrittenFirst}
use Rattle.jc_command_classes.proofs.instrument.all_writes.Given as goal

-- the files so far have their writes
abbrev pub invariant-instrumenting : goal.invariant-instrumenting
invariant-instrumenting g l = AreWrittenFirst l.fn.targeted.targets l.fn.targeted.inputs.paths l.fn.targeted.inputs.texts (length l.yielded) l.writes.items
