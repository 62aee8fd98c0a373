use Rattle.std.proofs.Common.{ap}
use Rattle.jc_monitor_model.specs.MonitorStep.{step_as, monitor_step}
use Rattle.jc_monitor_model.proofs.laws.idle_turns_change_nothing.Goals as goal

pub returns : goal.returns
unfolding monitor_step
returns c program m t e = ap (step_as program t m) e
