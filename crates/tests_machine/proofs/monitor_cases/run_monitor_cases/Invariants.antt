use Rattle.std.proofs.Common.{◌≡◌}
use Rattle.jc_programs.specs.Probes.{counts_of}
use Rattle.jc_machine.specs.Hits.{probe_counts}
use Rattle.tests_machine.proofs.monitor_cases.run_monitor_cases.Given as goal

abbrev pub invariant-running : goal.invariant-running
invariant-running l = counts_of l.sink ≡ probe_counts l.program
