use Rattle.jc_rules.proofs.SomeListLaws.{some_list}
use Rattle.jc_rules.proofs.laws.each_class_has_a_line_list.Goals as goal

pub returns : goal.returns
returns c methods = some_list methods
