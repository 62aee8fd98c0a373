use Rattle.jc_plan.proofs.ByBranchLaws.{class_planned, class_within}
use Rattle.jc_plan.proofs.class_laws.each_analysed_class_is_planned.Goals as goal

pub returns : goal.returns
returns c = record { plan = class_planned; within = class_within }
