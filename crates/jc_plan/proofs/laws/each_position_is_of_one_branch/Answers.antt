use Rattle.jc_plan.proofs.OneIdLaws.{one_branch}
use Rattle.jc_plan.proofs.laws.each_position_is_of_one_branch.Goals as goal

pub returns : goal.returns
returns c = one_branch
