use Rattle.jc_plan.proofs.IdsLaws.{ids_rise, ids_within}
use Rattle.jc_plan.proofs.OneIdLaws.{one_edge, each_used}
use Rattle.jc_plan.proofs.laws.each_id_is_its_own.Goals as goal

pub returns : goal.returns
returns c = record { rising = ids_rise; single = one_edge; within = ids_within; no_gap = each_used }
