use Rattle.jc_bootstraps.proofs.BootstrapFormLaws.{one_list}
use Rattle.jc_bootstraps.proofs.laws.each_body_has_one_list.Goals as goal

pub returns : goal.returns
returns c = one_list
