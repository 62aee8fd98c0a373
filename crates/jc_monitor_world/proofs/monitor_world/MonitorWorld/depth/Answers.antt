use Rattle.std.proofs.Common.{◌≡◌, ap, subst}
use Rattle.jc_machine.specs.Machines.{world_of, Fits}
use Rattle.jc_monitor_model.specs.MonitorStep.{depth_in, depth}
use Rattle.jc_monitor_world.specs.Monitored.{Monitored}
use Rattle.jc_monitor_world.proofs.monitor_world.MonitorWorld.depth.Goals as goal

pub returns-in-Some : goal.returns-in-Some
returns-in-Some c = λ program p fits.
    subst (λ (x : Monitored). Fits program x.machine → c.in-Some.standing.depth ≡ depth program (world_of x.machine) c.args.thread) c.self.view_is
    (λ f. ap depth_in (c.in-Some.ensures program p f)) fits

pub returns-in-None : goal.returns-in-None
returns-in-None c = λ program p fits.
    subst (λ (x : Monitored). Fits program x.machine → 0 ≡ depth program (world_of x.machine) c.args.thread) c.self.view_is
    (λ f. ap depth_in (c.in-None.ensures program p f)) fits
