use Rattle.jc_class.proofs.OneClassLaws.{one_class}
use Rattle.jc_class.proofs.laws.each_class_has_one_text.Goals as goal

pub returns : goal.returns
returns c = one_class.same
