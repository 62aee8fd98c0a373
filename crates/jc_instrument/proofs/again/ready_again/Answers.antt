use Rattle.std.proofs.Common.{◌≤◌, ◌+◌, length, sym, subst, arith}
use Rattle.jc_methods.specs.ProbeMembers.{most_probes}
use Rattle.jc_methods.specs.declared.plan.Plan.{Plan}
use Rattle.jc_methods.proofs.NumberedLaws.{frames_numbered, grown_count}
use Rattle.jc_plan.specs.Probed.{probe_count}
use Rattle.jc_instrument.proofs.again.ready_again.Goals as goal

pub plan-requires-clause-first : goal.plan-requires-clause-first
plan-requires-clause-first c =
    let next : c.args.first + probe_count c.args.body ≤ most_probes = c.requires.takes.room.next in
    omega (arith, next)

pub laid_again-requires : goal.laid_again-requires
laid_again-requires c = (c.args.first, c.in_ok-plan.ensures, c.requires.takes)

pub returns-clause-ready : goal.returns-clause-ready
returns-clause-ready c =
    let old = c.args.names.now in
    let names = c.states_again.new.names in
    let b = c.args.body in
    let found = c.in_ok-states.ensures in
    record {
      made = c.requires.takes.room.made;
      numbered = frames_numbered (length old) (length names) b.frames (grown_count old names found.names) c.requires.frames;
      plan = (c.args.first, c.in_ok-plan.ensures);
      next = subst (λ (p : Plan). p.next ≤ most_probes) (sym c.in_ok-plan.ensures) c.requires.takes.room.next;
      room = c.in_ok-laid.ensures.room;
      rows = c.requires.takes.room.rows;
      laid = c.in_ok-laid.ensures.laid;
      placed = c.in_ok-laid.ensures.places;
      states = found.states;
    }
