use Rattle.std.proofs.Common.{◌≡◌, ◌+◌, ◌<◌, ℕ, map, take}
use Rattle.jc_programs.specs.Probes.{counts_of}
use Rattle.jc_machine.specs.Hits.{probe_counts}
use Rattle.jc_monitor_runs.specs.MonitorTexts.{monitor_case_end}
use Rattle.jc_command_monitored.proofs.CaseLaws.{HasHits}
use Rattle.jc_command_monitored.proofs.cases.run_cases.Given as goal

-- the cases so far have passed the gate and were run
abbrev pub invariant-running : goal.invariant-running
invariant-running g l = record {
  ends : l.ends.items ≡ map (monitor_case_end l.program) (take l.index l.plan.cases);
  counts : counts_of l.sink ≡ probe_counts l.program;
  hits : HasHits l.program (take l.index l.plan.cases) l.sink;
  passed : (k : ℕ) → k < l.index → g.G.Gate.passed l.gate (k + 1);
}
