use Rattle.std.proofs.Common.{ℕ, sym, subst}
use Rattle.jc_programs.specs.Turns.{AreThreads}
use Rattle.tests_machine.proofs.monitor_cases.run_monitor_case.Goals as goal

pub run-requires-clause-threads : goal.run-requires-clause-threads
run-requires-clause-threads c =
    subst (λ (n : ℕ). AreThreads n c.args.case.now.schedule) (sym c.in_ok-world.ensures.threads) c.requires.case.threads
