use Rattle.std.proofs.Common.{take}
use Rattle.jc_programs.specs.Entries.{AreEntries}
use Rattle.tests_machine.proofs.cases.entries.Given as goal

abbrev pub invariant-looking : goal.invariant-looking
invariant-looking l = AreEntries l.program (take l.thread-index l.threads) l.entries.items
