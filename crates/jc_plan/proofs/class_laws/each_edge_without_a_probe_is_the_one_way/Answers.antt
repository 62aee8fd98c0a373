use Rattle.jc_plan.proofs.OneWayLaws.{one_way}
use Rattle.jc_plan.proofs.class_laws.each_edge_without_a_probe_is_the_one_way.Goals as goal

pub returns : goal.returns
returns c = one_way
