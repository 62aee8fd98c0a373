use Rattle.jc_plan.proofs.ChosenLaws.{chosen_listed, chosen_leads, condition_chooses}
use Rattle.jc_plan.proofs.class_laws.each_outcome_chooses_a_branch.Goals as goal

pub returns : goal.returns
returns c = record { listed = chosen_listed; leads = chosen_leads; apart = condition_chooses }
