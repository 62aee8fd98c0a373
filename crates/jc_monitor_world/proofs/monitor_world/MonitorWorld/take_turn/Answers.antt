use Rattle.std.proofs.Common.{◌≢◌, List, length, None, refl, sym, ap, ◌∙◌, subst}
use Rattle.jc_programs.specs.declared.run_end.Thrown.TheVariants as thrown
use Rattle.jc_machine_model.specs.World.{Hit}
use Rattle.jc_machine_model.specs.Step.{step}
use Rattle.jc_machine_model.specs.Standings.{stands, no_value, top_in}
use Rattle.jc_machine_model.specs.Locked.{turn_by, monitor_at, dropping, raising}
use Rattle.jc_machine.specs.Machines.{world_of}
use Rattle.jc_machine.specs.Hits.{Gained}
use Rattle.jc_monitor_model.specs.Locks.{access}
use Rattle.jc_monitor_model.specs.MonitorStep.{turned}
use Rattle.jc_monitor_model.specs.KeptLocks.{MayTake, MayGive}
use Rattle.jc_monitor_world.specs.declared.next_turn.MonitorTurn.{MonitorTurn}
use Rattle.jc_monitor_world.specs.Seen.{lock_of, turn_seen}
use Rattle.jc_monitor_world.specs.Monitored.{Monitored, monitor_world_of, without_hits, monitored_of}
use Rattle.jc_monitor_world.proofs.MonitoredLaws.{below, fits_inside, monitored_next, after_turn, nothing_gained, next_memory, no_hits}
use Rattle.jc_monitor_world.proofs.InPlaceLaws.{plain_world, null_seen, null_world, dropped_seen, takes_world, gives_world}
use Rattle.jc_monitor_world.proofs.TurnedLaws.{idle_kept, turn_kept, null_runs, takes_at, gives_at, plain_moves, null_moves, takes_moves, gives_moves}
use Rattle.jc_monitor_world.proofs.monitor_world.MonitorWorld.take_turn.Goals as goal

pub turn-requires-clause-fits : goal.turn-requires-clause-fits
turn-requires-clause-fits g c =
    fits_inside c.args.program.now c.self.inside c.args.self.now c.self.view_is c.requires.fits

pub turn-requires-clause-thread : goal.turn-requires-clause-thread
turn-requires-clause-thread g c =
    below c.self.inside c.self.invariant c.args.self.now c.self.view_is c.args.thread c.requires.thread

pub raise-requires-clause-fits : goal.raise-requires-clause-fits
raise-requires-clause-fits g c =
    fits_inside c.args.program.now c.self-in-RaisesNull.inside c.args.self.now c.self-in-RaisesNull.view_is c.requires.fits

pub raise-requires-clause-thread : goal.raise-requires-clause-thread
raise-requires-clause-thread g c =
    below c.self-in-RaisesNull.inside c.self-in-RaisesNull.invariant c.args.self.now c.self-in-RaisesNull.view_is c.args.thread c.requires.thread

pub raise-requires-clause-runs : goal.raise-requires-clause-runs
raise-requires-clause-runs g c =
    let program = c.args.program.now in
    let m = c.args.self.now in
    let t = c.args.thread in
    subst (λ (x : Monitored). stands program (world_of x.machine) t ≢ None) (sym c.self-in-RaisesNull.view_is)
    (null_runs program c.requires.program m t c.requires.thread c.requires.fits (c.requires.turn ∙ ap turn_seen c.in-RaisesNull.is))

pub drop_top-requires-clause-fits : goal.drop_top-requires-clause-fits
drop_top-requires-clause-fits g c =
    fits_inside c.args.program.now c.self-in-Takes.inside c.args.self.now c.self-in-Takes.view_is c.requires.fits

pub drop_top-requires-clause-thread : goal.drop_top-requires-clause-thread
drop_top-requires-clause-thread g c =
    below c.self-in-Takes.inside c.self-in-Takes.invariant c.args.self.now c.self-in-Takes.view_is c.args.thread c.requires.thread

pub drop_top-requires-clause-monitor : goal.drop_top-requires-clause-monitor
drop_top-requires-clause-monitor g c =
    let program = c.args.program.now in
    let m = c.args.self.now in
    let t = c.args.thread in
    subst (λ (x : Monitored). monitor_at program (world_of x.machine) t ≢ None) (sym c.self-in-Takes.view_is)
    (takes_at program c.requires.program m t c.requires.thread c.requires.fits (lock_of c.in-Takes.lock) (c.requires.turn ∙ ap turn_seen c.in-Takes.is)).0

pub drop_top-requires-clause-operand : goal.drop_top-requires-clause-operand
drop_top-requires-clause-operand g c =
    let program = c.args.program.now in
    let m = c.args.self.now in
    let t = c.args.thread in
    subst (λ (x : Monitored). top_in (world_of x.machine) t ≢ no_value) (sym c.self-in-Takes.view_is)
    (takes_at program c.requires.program m t c.requires.thread c.requires.fits (lock_of c.in-Takes.lock) (c.requires.turn ∙ ap turn_seen c.in-Takes.is)).1

pub take-requires : goal.take-requires
take-requires g c =
    let program = c.args.program.now in
    let m = c.args.self.now in
    let t = c.args.thread in
    subst (λ (x : Monitored). MayTake (length x.held) (access t (lock_of c.in-Takes.lock) x.held)) (sym c.self-in-Takes.view_is)
    (takes_at program c.requires.program m t c.requires.thread c.requires.fits (lock_of c.in-Takes.lock) (c.requires.turn ∙ ap turn_seen c.in-Takes.is)).2

pub drop_top-requires-in-Gives-clause-fits : goal.drop_top-requires-in-Gives-clause-fits
drop_top-requires-in-Gives-clause-fits g c =
    fits_inside c.args.program.now c.self-in-Gives.inside c.args.self.now c.self-in-Gives.view_is c.requires.fits

pub drop_top-requires-in-Gives-clause-thread : goal.drop_top-requires-in-Gives-clause-thread
drop_top-requires-in-Gives-clause-thread g c =
    below c.self-in-Gives.inside c.self-in-Gives.invariant c.args.self.now c.self-in-Gives.view_is c.args.thread c.requires.thread

pub drop_top-requires-in-Gives-clause-monitor : goal.drop_top-requires-in-Gives-clause-monitor
drop_top-requires-in-Gives-clause-monitor g c =
    let program = c.args.program.now in
    let m = c.args.self.now in
    let t = c.args.thread in
    subst (λ (x : Monitored). monitor_at program (world_of x.machine) t ≢ None) (sym c.self-in-Gives.view_is)
    (gives_at program c.requires.program m t c.requires.thread c.requires.fits (lock_of c.in-Gives.lock) (c.requires.turn ∙ ap turn_seen c.in-Gives.is)).0

pub drop_top-requires-in-Gives-clause-operand : goal.drop_top-requires-in-Gives-clause-operand
drop_top-requires-in-Gives-clause-operand g c =
    let program = c.args.program.now in
    let m = c.args.self.now in
    let t = c.args.thread in
    subst (λ (x : Monitored). top_in (world_of x.machine) t ≢ no_value) (sym c.self-in-Gives.view_is)
    (gives_at program c.requires.program m t c.requires.thread c.requires.fits (lock_of c.in-Gives.lock) (c.requires.turn ∙ ap turn_seen c.in-Gives.is)).1

pub give-requires : goal.give-requires
give-requires g c =
    let program = c.args.program.now in
    let m = c.args.self.now in
    let t = c.args.thread in
    subst (λ (x : Monitored). MayGive (access t (lock_of c.in-Gives.lock) x.held)) (sym c.self-in-Gives.view_is)
    (gives_at program c.requires.program m t c.requires.thread c.requires.fits (lock_of c.in-Gives.lock) (c.requires.turn ∙ ap turn_seen c.in-Gives.is)).2

pub invariant_of-self : goal.invariant_of-self
invariant_of-self g c =
    monitored_next c.self.inside c.self.invariant c.turn.new.self c.self.inside.locks c.turn.ensures.threads

pub invariant_of-self-in-RaisesNull : goal.invariant_of-self-in-RaisesNull
invariant_of-self-in-RaisesNull g c =
    monitored_next c.self-in-RaisesNull.inside c.self-in-RaisesNull.invariant c.raise.new.self c.self-in-RaisesNull.inside.locks c.raise.ensures.threads

pub invariant_of-self-in-Takes : goal.invariant_of-self-in-Takes
invariant_of-self-in-Takes g c =
    monitored_next c.self-in-Takes.inside c.self-in-Takes.invariant c.drop_top.new.self c.take.new.self c.drop_top.ensures.threads

pub invariant_of-self-in-Gives : goal.invariant_of-self-in-Gives
invariant_of-self-in-Gives g c =
    monitored_next c.self-in-Gives.inside c.self-in-Gives.invariant c.drop_top-in-Gives.new.self c.give.new.self c.drop_top-in-Gives.ensures.threads

pub returns-in-Idle-clause-world : goal.returns-in-Idle-clause-world
returns-in-Idle-clause-world g c =
    sym (ap (λ (turn : MonitorTurn). without_hits (turned c.args.program.now c.args.thread (monitor_world_of c.args.self.now) (turn_seen turn)))
    c.in-Idle.is)

pub returns-in-Idle-clause-hits : goal.returns-in-Idle-clause-hits
returns-in-Idle-clause-hits g c =
    let hits = g.S.ProbeSink.hits c.args.sink.now in
    subst (λ (hs : List Hit). Gained hits hs hits)
    (sym (ap (λ (turn : MonitorTurn). (turned c.args.program.now c.args.thread (monitor_world_of c.args.self.now) (turn_seen turn)).world.hits)
    c.in-Idle.is)) (nothing_gained hits)

pub returns-in-Idle-clause-fits : goal.returns-in-Idle-clause-fits
returns-in-Idle-clause-fits g c =
    let program = c.args.program.now in
    let m = c.args.self.now in
    let t = c.args.thread in
    record { machine = (c.requires.fits).machine; locks = idle_kept program c.requires.program m t c.requires.thread c.requires.fits }

pub returns-in-Plain-clause-world : goal.returns-in-Plain-clause-world
returns-in-Plain-clause-world g c =
    plain_world c.self.inside c.self.invariant c.args.self.now c.self.view_is c.args.program.now c.args.thread c.turn.new.self c.turn.ensures.threads
    c.turn.ensures.world
    ∙ sym (ap (λ (turn : MonitorTurn). without_hits (turned c.args.program.now c.args.thread (monitor_world_of c.args.self.now) (turn_seen turn)))
    c.in-Plain.is)

pub returns-in-Plain-clause-hits : goal.returns-in-Plain-clause-hits
returns-in-Plain-clause-hits g c =
    let program = c.args.program.now in
    let m = c.args.self.now in
    let t = c.args.thread in
    subst (λ (hs : List Hit). Gained (g.S.ProbeSink.hits c.args.sink.now) hs (g.S.ProbeSink.hits c.turn.new.sink))
    (ap (λ (x : Monitored). (step program (world_of x.machine) t).hits) c.self.view_is
    ∙ sym (ap (λ (turn : MonitorTurn). (turned c.args.program.now c.args.thread (monitor_world_of c.args.self.now) (turn_seen turn)).world.hits)
    c.in-Plain.is)) c.turn.ensures.hits

pub returns-in-Plain-clause-fits : goal.returns-in-Plain-clause-fits
returns-in-Plain-clause-fits g c =
    let program = c.args.program.now in
    let m = c.args.self.now in
    let t = c.args.thread in
    after_turn program t (turned program t (monitor_world_of m) (turn_seen c.args.turn)) _ c.turn.ensures.fits
    (plain_world c.self.inside c.self.invariant c.args.self.now c.self.view_is c.args.program.now c.args.thread c.turn.new.self c.turn.ensures.threads
    c.turn.ensures.world
    ∙ sym (ap (λ (turn : MonitorTurn). without_hits (turned c.args.program.now c.args.thread (monitor_world_of c.args.self.now) (turn_seen turn)))
    c.in-Plain.is))
    (turn_kept program c.requires.program m t c.requires.thread c.requires.fits (turn_seen c.args.turn) c.requires.turn
    (λ q. plain_moves (sym (ap turn_seen c.in-Plain.is) ∙ q)))

pub returns-in-Plain-clause-memory : goal.returns-in-Plain-clause-memory
returns-in-Plain-clause-memory g c =
    next_memory c.self.inside c.self.invariant c.args.self.now c.self.view_is c.turn.new.self (monitored_of c.self.inside).memory c.turn.ensures.memory
    refl

pub returns-in-RaisesNull-clause-world : goal.returns-in-RaisesNull-clause-world
returns-in-RaisesNull-clause-world g c =
    null_world c.self-in-RaisesNull.inside c.self-in-RaisesNull.invariant c.args.self.now c.self-in-RaisesNull.view_is c.args.program.now
    c.args.thread c.raise.new.self c.raise.ensures.threads c.raise.ensures.world
    ∙ sym (ap (λ (turn : MonitorTurn). without_hits (turned c.args.program.now c.args.thread (monitor_world_of c.args.self.now) (turn_seen turn)))
    c.in-RaisesNull.is)

pub returns-in-RaisesNull-clause-hits : goal.returns-in-RaisesNull-clause-hits
returns-in-RaisesNull-clause-hits g c =
    let hits = g.S.ProbeSink.hits c.args.sink.now in
    subst (λ (hs : List Hit). Gained hits hs hits)
    (no_hits c.raise.new.self (turn_by c.args.program.now (raising thrown.NullPointerException) (world_of c.args.self.now.machine) c.args.thread)
    (null_seen c.self-in-RaisesNull.inside c.self-in-RaisesNull.invariant c.args.self.now c.self-in-RaisesNull.view_is c.args.program.now
    c.args.thread c.raise.new.self c.raise.ensures.world)
    ∙ sym (ap (λ (turn : MonitorTurn). (turned c.args.program.now c.args.thread (monitor_world_of c.args.self.now) (turn_seen turn)).world.hits)
    c.in-RaisesNull.is)) (nothing_gained hits)

pub returns-in-RaisesNull-clause-fits : goal.returns-in-RaisesNull-clause-fits
returns-in-RaisesNull-clause-fits g c =
    let program = c.args.program.now in
    let m = c.args.self.now in
    let t = c.args.thread in
    after_turn program t (turned program t (monitor_world_of m) (turn_seen c.args.turn)) _ c.raise.ensures.fits
    (null_world c.self-in-RaisesNull.inside c.self-in-RaisesNull.invariant c.args.self.now c.self-in-RaisesNull.view_is c.args.program.now
    c.args.thread c.raise.new.self c.raise.ensures.threads c.raise.ensures.world
    ∙ sym (ap (λ (turn : MonitorTurn). without_hits (turned c.args.program.now c.args.thread (monitor_world_of c.args.self.now) (turn_seen turn)))
    c.in-RaisesNull.is))
    (turn_kept program c.requires.program m t c.requires.thread c.requires.fits (turn_seen c.args.turn) c.requires.turn
    (λ q. null_moves (sym (ap turn_seen c.in-RaisesNull.is) ∙ q)))

pub returns-in-RaisesNull-clause-memory : goal.returns-in-RaisesNull-clause-memory
returns-in-RaisesNull-clause-memory g c =
    next_memory c.self-in-RaisesNull.inside c.self-in-RaisesNull.invariant c.args.self.now c.self-in-RaisesNull.view_is c.raise.new.self
    (monitored_of c.self-in-RaisesNull.inside).memory c.raise.ensures.memory
    refl

pub returns-in-Takes-clause-world : goal.returns-in-Takes-clause-world
returns-in-Takes-clause-world g c =
    takes_world c.self-in-Takes.inside c.self-in-Takes.invariant c.args.self.now c.self-in-Takes.view_is c.args.program.now c.args.thread
    c.drop_top.new.self c.drop_top.ensures.threads c.drop_top.ensures.world (lock_of c.in-Takes.lock) c.take.new.self.held c.take.ensures.held
    ∙ sym (ap (λ (turn : MonitorTurn). without_hits (turned c.args.program.now c.args.thread (monitor_world_of c.args.self.now) (turn_seen turn)))
    c.in-Takes.is)

pub returns-in-Takes-clause-hits : goal.returns-in-Takes-clause-hits
returns-in-Takes-clause-hits g c =
    let hits = g.S.ProbeSink.hits c.args.sink.now in
    subst (λ (hs : List Hit). Gained hits hs hits)
    (no_hits c.drop_top.new.self (turn_by c.args.program.now dropping (world_of c.args.self.now.machine) c.args.thread)
    (dropped_seen c.self-in-Takes.inside c.self-in-Takes.invariant c.args.self.now c.self-in-Takes.view_is c.args.program.now c.args.thread
    c.drop_top.new.self c.drop_top.ensures.threads c.drop_top.ensures.world)
    ∙ sym (ap (λ (turn : MonitorTurn). (turned c.args.program.now c.args.thread (monitor_world_of c.args.self.now) (turn_seen turn)).world.hits)
    c.in-Takes.is)) (nothing_gained hits)

pub returns-in-Takes-clause-fits : goal.returns-in-Takes-clause-fits
returns-in-Takes-clause-fits g c =
    let program = c.args.program.now in
    let m = c.args.self.now in
    let t = c.args.thread in
    after_turn program t (turned program t (monitor_world_of m) (turn_seen c.args.turn)) _ c.drop_top.ensures.fits
    (takes_world c.self-in-Takes.inside c.self-in-Takes.invariant c.args.self.now c.self-in-Takes.view_is c.args.program.now c.args.thread
    c.drop_top.new.self c.drop_top.ensures.threads c.drop_top.ensures.world (lock_of c.in-Takes.lock) c.take.new.self.held c.take.ensures.held
    ∙ sym (ap (λ (turn : MonitorTurn). without_hits (turned c.args.program.now c.args.thread (monitor_world_of c.args.self.now) (turn_seen turn)))
    c.in-Takes.is))
    (turn_kept program c.requires.program m t c.requires.thread c.requires.fits (turn_seen c.args.turn) c.requires.turn
    (λ q. takes_moves (lock_of c.in-Takes.lock) (sym (ap turn_seen c.in-Takes.is) ∙ q)))

pub returns-in-Takes-clause-memory : goal.returns-in-Takes-clause-memory
returns-in-Takes-clause-memory g c =
    next_memory c.self-in-Takes.inside c.self-in-Takes.invariant c.args.self.now c.self-in-Takes.view_is c.drop_top.new.self
    (record (monitored_of c.self-in-Takes.inside).memory { held = c.take.new.self.memory }) c.drop_top.ensures.memory
    (ap (λ held. record (monitored_of c.self-in-Takes.inside).memory { held = held }) c.take.ensures.memory)

pub returns-in-Gives-clause-world : goal.returns-in-Gives-clause-world
returns-in-Gives-clause-world g c =
    gives_world c.self-in-Gives.inside c.self-in-Gives.invariant c.args.self.now c.self-in-Gives.view_is c.args.program.now c.args.thread
    c.drop_top-in-Gives.new.self c.drop_top-in-Gives.ensures.threads c.drop_top-in-Gives.ensures.world
    (lock_of c.in-Gives.lock) c.give.new.self.held c.give.ensures.held
    ∙ sym (ap (λ (turn : MonitorTurn). without_hits (turned c.args.program.now c.args.thread (monitor_world_of c.args.self.now) (turn_seen turn)))
    c.in-Gives.is)

pub returns-in-Gives-clause-hits : goal.returns-in-Gives-clause-hits
returns-in-Gives-clause-hits g c =
    let hits = g.S.ProbeSink.hits c.args.sink.now in
    subst (λ (hs : List Hit). Gained hits hs hits)
    (no_hits c.drop_top-in-Gives.new.self (turn_by c.args.program.now dropping (world_of c.args.self.now.machine) c.args.thread)
    (dropped_seen c.self-in-Gives.inside c.self-in-Gives.invariant c.args.self.now c.self-in-Gives.view_is c.args.program.now c.args.thread
    c.drop_top-in-Gives.new.self c.drop_top-in-Gives.ensures.threads c.drop_top-in-Gives.ensures.world)
    ∙ sym (ap (λ (turn : MonitorTurn). (turned c.args.program.now c.args.thread (monitor_world_of c.args.self.now) (turn_seen turn)).world.hits)
    c.in-Gives.is)) (nothing_gained hits)

pub returns-in-Gives-clause-fits : goal.returns-in-Gives-clause-fits
returns-in-Gives-clause-fits g c =
    let program = c.args.program.now in
    let m = c.args.self.now in
    let t = c.args.thread in
    after_turn program t (turned program t (monitor_world_of m) (turn_seen c.args.turn)) _ c.drop_top-in-Gives.ensures.fits
    (gives_world c.self-in-Gives.inside c.self-in-Gives.invariant c.args.self.now c.self-in-Gives.view_is c.args.program.now c.args.thread
    c.drop_top-in-Gives.new.self c.drop_top-in-Gives.ensures.threads c.drop_top-in-Gives.ensures.world
    (lock_of c.in-Gives.lock) c.give.new.self.held c.give.ensures.held
    ∙ sym (ap (λ (turn : MonitorTurn). without_hits (turned c.args.program.now c.args.thread (monitor_world_of c.args.self.now) (turn_seen turn)))
    c.in-Gives.is))
    (turn_kept program c.requires.program m t c.requires.thread c.requires.fits (turn_seen c.args.turn) c.requires.turn
    (λ q. gives_moves (lock_of c.in-Gives.lock) (sym (ap turn_seen c.in-Gives.is) ∙ q)))

pub returns-in-Gives-clause-memory : goal.returns-in-Gives-clause-memory
returns-in-Gives-clause-memory g c =
    next_memory c.self-in-Gives.inside c.self-in-Gives.invariant c.args.self.now c.self-in-Gives.view_is c.drop_top-in-Gives.new.self
    (record (monitored_of c.self-in-Gives.inside).memory { held = c.give.new.self.memory }) c.drop_top-in-Gives.ensures.memory
    (ap (λ held. record (monitored_of c.self-in-Gives.inside).memory { held = held }) c.give.ensures.memory)

pub call-requires-clause-turn : goal.call-requires-clause-turn
call-requires-clause-turn g c =
    c.requires.turn ∙ ap turn_seen c.in-CallsLocked.is

pub returns-in-CallsLocked-clause-world : goal.returns-in-CallsLocked-clause-world
returns-in-CallsLocked-clause-world g c =
    c.call.ensures.world ∙ sym
    (ap (λ (turn : MonitorTurn). without_hits (turned c.args.program.now c.args.thread (monitor_world_of c.args.self.now) (turn_seen turn)))
    c.in-CallsLocked.is)

pub returns-in-CallsLocked-clause-hits : goal.returns-in-CallsLocked-clause-hits
returns-in-CallsLocked-clause-hits g c =
    subst (λ (hs : List Hit). Gained (g.S.ProbeSink.hits c.args.sink.now) hs (g.S.ProbeSink.hits c.call.new.sink))
    (sym (ap (λ (turn : MonitorTurn). (turned c.args.program.now c.args.thread (monitor_world_of c.args.self.now) (turn_seen turn)).world.hits)
    c.in-CallsLocked.is)) c.call.ensures.hits
