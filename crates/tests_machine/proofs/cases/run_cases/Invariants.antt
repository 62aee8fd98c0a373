use Rattle.std.proofs.Common.{◌≡◌}
use Rattle.jc_programs.specs.Probes.{counts_of}
use Rattle.jc_machine.specs.Hits.{probe_counts}
use Rattle.jc_machine.specs.Machines.{Fits}
use Rattle.tests_machine.proofs.cases.run_cases.Given as goal

abbrev pub invariant-running : goal.invariant-running
invariant-running l = Fits l.program l.world × (counts_of l.sink ≡ probe_counts l.program)
