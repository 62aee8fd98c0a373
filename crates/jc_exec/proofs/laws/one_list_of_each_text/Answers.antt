use Rattle.jc_exec.proofs.ListLaws.{one_list}
use Rattle.jc_exec.proofs.laws.one_list_of_each_text.Goals as goal

pub returns : goal.returns
returns c = one_list
