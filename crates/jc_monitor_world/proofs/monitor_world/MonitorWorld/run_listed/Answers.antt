use Rattle.std.proofs.Common.{◌≡◌, ℕ, ◌+◌, List, ◌∷◌, drop, length, slice_index_or, ◌∙◌, subst, rules}
use Rattle.jc_monitor_world.specs.Monitored.{monitor_world_of}
use Rattle.jc_monitor_world.proofs.MonitoredLaws.{keeps_on}
use Rattle.jc_machine.proofs.RunLaws.{next_listed}
use Rattle.jc_monitor_world.proofs.MonitorHitLaws.{Underway, one_more}
use Rattle.jc_monitor_world.proofs.monitor_world.MonitorWorld.run_listed.Goals as goal

pub turning-preserved : goal.turning-preserved
turning-preserved g c =
    let program = c.args.program.now in
    let threads = length c.args.self.now.machine.threads in
    let all = c.args.turns.now in
    let k = c.turning.t-index in
    let left = drop (k + 1) all in
    let read : c.from.result ≡ slice_index_or all k 0 = search rules in
    let split : drop k all ≡ c.from.result ∷ left = next_listed all k c.from.result c.turning-test.true read in
    let u = c.turning.invariant.underway in
    record {
      underway = one_more program (monitor_world_of c.args.self.now) all (g.S.ProbeSink.hits c.args.sink.now)
          (monitor_world_of c.turning.self) c.from.result left
          (g.S.ProbeSink.hits c.turning.sink)
          (subst (λ (ts : List ℕ). Underway program (monitor_world_of c.args.self.now) all (g.S.ProbeSink.hits c.args.sink.now)
          (monitor_world_of c.turning.self) ts
          (g.S.ProbeSink.hits c.turning.sink)) split u)
          (monitor_world_of c.turn.new.self) (g.S.ProbeSink.hits c.turn.new.sink) c.turn.ensures.world c.turn.ensures.hits;
      fits = c.turn.ensures.fits;
      memory = keeps_on c.args.self.now c.turning.self c.turn.new.self c.turning.invariant.memory c.turn.ensures.memory;
      counts = c.turn.ensures.counts ∙ c.turning.invariant.counts;
    }
