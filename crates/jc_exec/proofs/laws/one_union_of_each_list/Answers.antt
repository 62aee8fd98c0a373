use Rattle.jc_exec.proofs.UnionLaws.{one_union}
use Rattle.jc_exec.proofs.laws.one_union_of_each_list.Goals as goal

pub returns : goal.returns
returns c = one_union
