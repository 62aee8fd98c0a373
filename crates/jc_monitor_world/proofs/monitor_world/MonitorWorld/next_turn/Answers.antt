use Rattle.std.proofs.Common.{◌≡◌, Some, None, sym, ap, ◌∙◌, subst}
use Rattle.jc_machine_model.specs.Standings.{top_in}
use Rattle.jc_machine_model.specs.Locked.{callee}
use Rattle.jc_machine.specs.Machines.{world_of}
use Rattle.jc_machine.specs.Standings.{standing_in}
use Rattle.jc_monitor_model.specs.MonitorTurns.{turn_on_top, turn_on_call, turn_on}
use Rattle.jc_monitor_world.specs.Seen.{insn_of, turn_seen}
use Rattle.jc_monitor_world.specs.Monitored.{Monitored, monitor_world_of, FitsMonitored}
use Rattle.jc_monitor_world.proofs.TurnedLaws.{turn_is}
use Rattle.jc_monitor_world.proofs.monitor_world.MonitorWorld.next_turn.Goals as goal

pub callee-requires-clause-fits : goal.callee-requires-clause-fits
callee-requires-clause-fits c = (subst (FitsMonitored c.args.program.now) (sym c.self.view_is) c.requires.fits).machine

pub returns-in-Some : goal.returns-in-Some
returns-in-Some c =
    let program = c.args.program.now in
    let m = c.args.self.now in
    let t = c.args.thread in
    let insn = insn_of c.in-Some.insn in
    subst (λ (x : Monitored). turn_seen c.turn_on_top.result
    ≡ turn_on t (Some insn) (top_in (world_of x.machine) t) (callee program (world_of x.machine) t) x.held) c.self.view_is
    (c.turn_on_top.ensures ∙ ap (λ top. turn_on_top t insn top c.self.inside.locks.held) c.top.ensures)
    ∙ (ap (λ i. turn_on t i (top_in (world_of m.machine) t) (callee program (world_of m.machine) t) m.held) c.in-Some.ensures
    ∙ sym (turn_is program (monitor_world_of m) t (standing_in c.args.standing) c.requires.standing))

pub returns-in-None : goal.returns-in-None
returns-in-None c =
    let program = c.args.program.now in
    let m = c.args.self.now in
    let t = c.args.thread in
    subst (λ (x : Monitored). turn_seen c.turn_on_call.result
    ≡ turn_on t None (top_in (world_of x.machine) t) (callee program (world_of x.machine) t) x.held) c.self.view_is
    (c.turn_on_call.ensures ∙ ap (λ method. turn_on_call t method c.self.inside.locks.held) c.callee.ensures)
    ∙ (ap (λ i. turn_on t i (top_in (world_of m.machine) t) (callee program (world_of m.machine) t) m.held) c.in-None.ensures
    ∙ sym (turn_is program (monitor_world_of m) t (standing_in c.args.standing) c.requires.standing))
