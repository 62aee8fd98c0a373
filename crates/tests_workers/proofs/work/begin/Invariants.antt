use Rattle.std.proofs.Common.{take}
use Rattle.tests_workers.specs.Begin.{Begin}
use Rattle.tests_workers.proofs.work.begin.Given as goal

abbrev pub invariant-seeking : goal.invariant-seeking
invariant-seeking l = Begin l.program (take l.thread-index l.threads)
