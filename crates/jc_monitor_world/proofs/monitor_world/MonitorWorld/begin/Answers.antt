use Rattle.std.proofs.Common.{arith}
use Rattle.jc_monitor_world.proofs.MonitorBeginLaws.{begun_world, begun_fits}
use Rattle.jc_monitor_world.proofs.monitor_world.MonitorWorld.begin.Goals as goal

pub returns-clause-world : goal.returns-clause-world
returns-clause-world c =
    let few = c.requires.case.few in
    let many = c.in_ok-no_frames.ensures.count in
    begun_world c.args.program.now c.args.case.now.threads c.args.entries.now c.in_ok-begin.field-0 c.in_ok-new.field-0.held c.in_ok-no_frames.field-0.items
    c.in_ok-begin.ensures.world c.in_ok-begin.ensures.threads c.in_ok-new.ensures (omega (arith, few, many)) c.in_ok-no_frames.ensures.none

pub returns-clause-fits : goal.returns-clause-fits
returns-clause-fits c =
    let few = c.requires.case.few in
    let many = c.in_ok-no_frames.ensures.count in
    begun_fits c.args.program.now c.args.case.now.threads c.args.entries.now _ c.in_ok-begin.ensures.fits c.in_ok-begin.ensures.world
    c.in_ok-begin.ensures.threads
    (begun_world c.args.program.now c.args.case.now.threads c.args.entries.now c.in_ok-begin.field-0 c.in_ok-new.field-0.held c.in_ok-no_frames.field-0.items
    c.in_ok-begin.ensures.world c.in_ok-begin.ensures.threads c.in_ok-new.ensures (omega (arith, few, many)) c.in_ok-no_frames.ensures.none)
