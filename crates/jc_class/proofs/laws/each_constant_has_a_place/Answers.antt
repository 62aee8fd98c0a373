use Rattle.jc_class.proofs.ConstantLaws.{each_constant}
use Rattle.jc_class.proofs.laws.each_constant_has_a_place.Goals as goal

pub returns : goal.returns
returns c = each_constant
