use Rattle.jc_plan.proofs.ByBranchLaws.{each_planned}
use Rattle.jc_plan.proofs.class_laws.each_branch_is_planned.Goals as goal

pub returns : goal.returns
returns c = each_planned
