use Rattle.std.proofs.Common.{◌≡◌, ℕ, ◌+◌, ◌-◌, ◌%◌, List, ◌∷◌, length, ap, ◌∙◌, subst}
use Rattle.jc_programs.specs.Turns.{turns_around}
use Rattle.jc_monitor_world.specs.Monitored.{Monitored, monitor_world_of}
use Rattle.jc_monitor_world.proofs.MonitoredLaws.{keeps_on}
use Rattle.jc_machine.proofs.RunLaws.{next_around}
use Rattle.jc_monitor_world.proofs.MonitorHitLaws.{Underway, one_more}
use Rattle.jc_monitor_world.proofs.monitor_world.MonitorWorld.run_around.Goals as goal

pub turning-preserved : goal.turning-preserved
turning-preserved g c =
    let program = c.args.program.now in
    let threads = length c.args.self.now.machine.threads in
    let all = turns_around threads 0 c.args.turns in
    let k = c.turning.k in
    let t = k % c.thread_count-threads.result in
    let left = turns_around threads (k + 1) (c.args.turns - (k + 1)) in
    let split : turns_around threads k (c.args.turns - k) ≡ t ∷ left =
    next_around threads k c.args.turns t c.turning-test.true
    (ap (λ n. k % n) (c.thread_count-threads.ensures.count ∙ ap (λ (x : Monitored). length x.machine.threads) c.self.view_is)) in
    let u = c.turning.invariant.underway in
    record {
      underway = one_more program (monitor_world_of c.args.self.now) all (g.S.ProbeSink.hits c.args.sink.now) (monitor_world_of c.turning.self) t left
          (g.S.ProbeSink.hits c.turning.sink)
          (subst (λ (ts : List ℕ). Underway program (monitor_world_of c.args.self.now) all (g.S.ProbeSink.hits c.args.sink.now)
          (monitor_world_of c.turning.self) ts
          (g.S.ProbeSink.hits c.turning.sink)) split u)
          (monitor_world_of c.turn.new.self) (g.S.ProbeSink.hits c.turn.new.sink) c.turn.ensures.world c.turn.ensures.hits;
      fits = c.turn.ensures.fits;
      memory = keeps_on c.args.self.now c.turning.self c.turn.new.self c.turning.invariant.memory c.turn.ensures.memory;
      counts = c.turn.ensures.counts ∙ c.turning.invariant.counts;
    }
