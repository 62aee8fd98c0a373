use Rattle.std.proofs.Common.{◌-◌}
use Rattle.jc_machine_code.proofs.SwitchLaws.{Between}
use Rattle.jc_machine_code.proofs.switches.lookup_target.Given as goal

abbrev pub invariant-searching : goal.invariant-searching
invariant-searching l = Between l.arms l.fn.key l.low l.high

abbrev pub decreases-searching : goal.decreases-searching
decreases-searching l = l.high - l.low
