use Rattle.std.proofs.Common.{◌≡◌, ◌-◌, length}
use Rattle.jc_programs.specs.Turns.{turns_drawn}
use Rattle.jc_monitor_world.specs.Monitored.{monitor_world_of, FitsMonitored, KeepsMemory}
use Rattle.jc_monitor_world.proofs.MonitorHitLaws.{Underway}
use Rattle.jc_monitor_world.proofs.monitor_world.MonitorWorld.run_drawn.Given as goal

abbrev pub invariant-turning : goal.invariant-turning
invariant-turning g l = record {
  underway : Underway l.program (monitor_world_of l.initial.self) (turns_drawn (length l.initial.self.machine.threads) l.seed l.turns)
      (g.S.ProbeSink.hits l.initial.sink)
      (monitor_world_of l.self) (turns_drawn (length l.initial.self.machine.threads) l.x (l.turns - l.k)) (g.S.ProbeSink.hits l.sink);
  fits : FitsMonitored l.program l.self;
  memory : KeepsMemory l.initial.self l.self;
  counts : g.S.ProbeSink.counts l.sink ≡ g.S.ProbeSink.counts l.initial.sink;
}
