use Rattle.jc_rules.proofs.OneListLaws.{one_list}
use Rattle.jc_rules.proofs.laws.each_class_has_one_line_list.Goals as goal

pub returns : goal.returns
returns c = one_list
