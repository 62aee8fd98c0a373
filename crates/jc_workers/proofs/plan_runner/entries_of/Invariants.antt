use Rattle.std.proofs.Common.{◌≡◌, take}
use Rattle.jc_machine_model.specs.Begin.{entries_of}
use Rattle.jc_workers.proofs.plan_runner.entries_of.Given as goal

abbrev pub invariant-entering : goal.invariant-entering
invariant-entering l = l.entries ≡ entries_of l.program (take l.thread-index l.threads)
