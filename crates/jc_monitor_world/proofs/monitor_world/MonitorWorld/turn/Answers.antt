use Rattle.std.proofs.Common.{◌≡◌, List, Some, None, length, sym, ap, ◌∙◌, subst, arith}
use Rattle.jc_machine_model.specs.World.{Hit}
use Rattle.jc_machine_model.specs.Standings.{stands}
use Rattle.jc_machine.specs.Machines.{world_of, Fits}
use Rattle.jc_machine.specs.Hits.{Gained}
use Rattle.jc_machine.specs.Standings.{standing_in}
use Rattle.jc_monitor_model.specs.MonitorWorld.{MonitorWorld}
use Rattle.jc_monitor_model.specs.MonitorTurns.{idle, turn_of}
use Rattle.jc_monitor_model.specs.MonitorStep.{depth_in, depth, after_release, monitor_step}
use Rattle.jc_monitor_world.specs.Seen.{turn_seen}
use Rattle.jc_monitor_world.specs.Monitored.{Monitored, monitor_world_of, without_hits}
use Rattle.jc_monitor_world.proofs.KeptLaws.{turned_count, monitor_step_count}
use Rattle.jc_monitor_world.proofs.MonitoredLaws.{below, nothing_gained, keeps_on}
use Rattle.jc_monitor_world.proofs.TurnedLaws.{turn_idle, seen_idle, idle_world, idle_hits, moved_world, moved_hits}
use Rattle.jc_monitor_world.proofs.monitor_world.MonitorWorld.turn.Goals as goal

pub stands-requires : goal.stands-requires
stands-requires g c =
    record { thread = below c.self.inside c.self.invariant c.args.self.now c.self.view_is c.args.thread c.requires.thread }

pub returns-in_default-clause-world : goal.returns-in_default-clause-world
returns-in_default-clause-world g c =
    let program = c.args.program.now in
    let m = c.args.self.now in
    let t = c.args.thread in
    let e : turn_of program (monitor_world_of m) t ≡ idle =
    turn_idle program (monitor_world_of m) t
    (subst (λ (x : Monitored). Fits program x.machine → None ≡ stands program (world_of x.machine) t) c.self.view_is
    (λ f. c.in_default.ensures program c.requires.program f) (c.requires.fits).machine) in
    idle_world program c.requires.program m t c.requires.thread c.requires.fits e

pub returns-in_default-clause-hits : goal.returns-in_default-clause-hits
returns-in_default-clause-hits g c =
    let program = c.args.program.now in
    let m = c.args.self.now in
    let t = c.args.thread in
    let e : turn_of program (monitor_world_of m) t ≡ idle =
    turn_idle program (monitor_world_of m) t
    (subst (λ (x : Monitored). Fits program x.machine → None ≡ stands program (world_of x.machine) t) c.self.view_is
    (λ f. c.in_default.ensures program c.requires.program f) (c.requires.fits).machine) in
    let hits = g.S.ProbeSink.hits c.args.sink.now in
    subst (λ (hs : List Hit). Gained hits hs hits) (idle_hits program c.requires.program m t c.requires.thread c.requires.fits e) (nothing_gained hits)

pub returns-in-Idle-clause-world : goal.returns-in-Idle-clause-world
returns-in-Idle-clause-world g c =
    let program = c.args.program.now in
    let m = c.args.self.now in
    let t = c.args.thread in
    let e : turn_of program (monitor_world_of m) t ≡ idle = sym c.next_turn-turn.ensures ∙ ap turn_seen c.in-Idle.is in
    idle_world program c.requires.program m t c.requires.thread c.requires.fits e

pub returns-in-Idle-clause-hits : goal.returns-in-Idle-clause-hits
returns-in-Idle-clause-hits g c =
    let program = c.args.program.now in
    let m = c.args.self.now in
    let t = c.args.thread in
    let e : turn_of program (monitor_world_of m) t ≡ idle = sym c.next_turn-turn.ensures ∙ ap turn_seen c.in-Idle.is in
    let hits = g.S.ProbeSink.hits c.args.sink.now in
    subst (λ (hs : List Hit). Gained hits hs hits) (idle_hits program c.requires.program m t c.requires.thread c.requires.fits e) (nothing_gained hits)

pub next_turn-turn-requires-clause-standing : goal.next_turn-turn-requires-clause-standing
next_turn-turn-requires-clause-standing g c =
    let program = c.args.program.now in
    let m = c.args.self.now in
    let t = c.args.thread in
    sym (subst (λ (x : Monitored). Fits program x.machine → Some (standing_in c.in-Some.standing) ≡ stands program (world_of x.machine) t) c.self.view_is
    (λ f. c.in-Some.ensures program c.requires.program f) (c.requires.fits).machine)

pub take_turn-requires : goal.take_turn-requires
take_turn-requires g c =
    let program = c.args.program.now in
    let m = c.args.self.now in
    let t = c.args.thread in
    record {
      program = c.requires.program;
      fits = c.requires.fits;
      thread = c.requires.thread;
      counts = c.requires.counts;
      frame_count = subst (λ (x : Monitored). Fits program x.machine → c.in-Some.standing.depth ≡ depth program (world_of x.machine) t) c.self.view_is
          (λ f. ap depth_in (c.in-Some.ensures program c.requires.program f)) (c.requires.fits).machine;
      turn = sym c.next_turn-turn.ensures;
    }

pub release-requires : goal.release-requires
release-requires g c =
    let program = c.args.program.now in
    let m = c.args.self.now in
    let t = c.args.thread in
    let same = ap (λ (n : MonitorWorld). length n.world.threads) c.take_turn.ensures.world
    ∙ turned_count program t (monitor_world_of m) (turn_seen c.next_turn-turn.result) in
    let less = c.requires.thread in record {
      thread = omega (arith, less, same);
      fits = (program, c.requires.program, c.take_turn.ensures.fits);
    }

pub returns : goal.returns
returns g c =
    let program = c.args.program.now in
    let m = c.args.self.now in
    let t = c.args.thread in
    let world : monitor_world_of c.release.new.self ≡ without_hits (monitor_step program (monitor_world_of m) t) =
    c.release.ensures.world program c.requires.program c.take_turn.ensures.fits
    ∙ (ap (after_release program t) c.take_turn.ensures.world
    ∙ moved_world program c.requires.program m t c.requires.thread c.requires.fits (turn_seen c.next_turn-turn.result)
    (sym c.next_turn-turn.ensures) (λ q. c.in_default-turn.not-Idle (seen_idle c.next_turn-turn.result q))) in
    record {
      world = world;
      hits = subst (λ (hs : List Hit). Gained (g.S.ProbeSink.hits c.args.sink.now) hs (g.S.ProbeSink.hits c.take_turn.new.sink))
          (moved_hits program c.requires.program m t c.requires.thread c.requires.fits (turn_seen c.next_turn-turn.result)
          (sym c.next_turn-turn.ensures) (λ q. c.in_default-turn.not-Idle (seen_idle c.next_turn-turn.result q))) c.take_turn.ensures.hits;
      counts = c.take_turn.ensures.counts;
      threads = ap (λ (n : MonitorWorld). length n.world.threads) world ∙ monitor_step_count program (monitor_world_of m) t;
      fits = c.release.ensures.fits program c.requires.program c.take_turn.ensures.fits;
      memory = keeps_on m c.take_turn.new.self c.release.new.self c.take_turn.ensures.memory c.release.ensures.memory;
    }
