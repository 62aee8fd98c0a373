use Rattle.std.proofs.Common.{◌≡◌, drop}
use Rattle.jc_monitor_world.specs.Monitored.{monitor_world_of, FitsMonitored, KeepsMemory}
use Rattle.jc_monitor_world.proofs.MonitorHitLaws.{Underway}
use Rattle.jc_monitor_world.proofs.monitor_world.MonitorWorld.run_listed.Given as goal

abbrev pub invariant-turning : goal.invariant-turning
invariant-turning g l = record {
  underway : Underway l.program (monitor_world_of l.initial.self) l.turns (g.S.ProbeSink.hits l.initial.sink) (monitor_world_of l.self) (drop l.t-index l.turns)
      (g.S.ProbeSink.hits l.sink);
  fits : FitsMonitored l.program l.self;
  memory : KeepsMemory l.initial.self l.self;
  counts : g.S.ProbeSink.counts l.sink ≡ g.S.ProbeSink.counts l.initial.sink;
}
