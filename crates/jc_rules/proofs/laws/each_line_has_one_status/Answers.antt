use Rattle.jc_rules.specs.Status.{HasItem}
use Rattle.jc_rules.proofs.StatusLaws.{one_status}
use Rattle.jc_rules.proofs.laws.each_line_has_one_status.Goals as goal

pub returns : goal.returns
returns c methods number a b = one_status (HasItem methods number) a b
