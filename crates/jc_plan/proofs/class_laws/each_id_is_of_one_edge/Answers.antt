use Rattle.jc_plan.proofs.ClassEdgesLaws.{one_class_edge}
use Rattle.jc_plan.proofs.class_laws.each_id_is_of_one_edge.Goals as goal

pub returns : goal.returns
returns c = one_class_edge
