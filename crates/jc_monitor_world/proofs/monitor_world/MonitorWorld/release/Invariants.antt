use Rattle.std.proofs.Common.{length}
use Rattle.jc_monitor_world.proofs.ReleaseLaws.{list_in, IsLeaving}
use Rattle.jc_monitor_world.proofs.monitor_world.MonitorWorld.release.Given as goal

abbrev pub invariant-leaving : goal.invariant-leaving
invariant-leaving l = IsLeaving l.initial.self-inside l.self-inside l.t l.depth

abbrev pub decreases-leaving : goal.decreases-leaving
decreases-leaving l = length (list_in l.self-inside l.t)
