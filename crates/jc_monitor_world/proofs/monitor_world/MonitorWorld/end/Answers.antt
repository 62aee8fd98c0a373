use Rattle.std.proofs.Common.{◌≡◌, IfOk, subst}
use Rattle.jc_programs.specs.declared.run_end.CaseEnd.{CaseEnd}
use Rattle.jc_machine_model.specs.CaseEnds.{case_end_in}
use Rattle.jc_machine.specs.Machines.{world_of}
use Rattle.jc_monitor_world.specs.Monitored.{Monitored, FitsMonitored}
use Rattle.jc_monitor_world.proofs.monitor_world.MonitorWorld.end.Goals as goal

pub returns : goal.returns
returns c = λ program fits.
    subst (λ (x : Monitored). FitsMonitored program x → IfOk c.end.result (λ (end : CaseEnd). end ≡ case_end_in program (world_of x.machine)))
    c.self.view_is
    (λ f. c.end.ensures program f.machine) fits
