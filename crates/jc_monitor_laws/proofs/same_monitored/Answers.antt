use Rattle.jc_monitor_laws.proofs.MonitorRunLaws.{monitored_alike}
use Rattle.jc_monitor_laws.proofs.same_monitored.Goals as goal

pub returns : goal.returns
returns c = monitored_alike c.args.before.now c.args.after.now c.args.case.now
