use Rattle.jc_instrument.proofs.OneTwinLaws.{one_twin}
use Rattle.jc_instrument.proofs.TwinLaws.{same_outside}
use Rattle.jc_instrument.proofs.instrumented.each_class_has_one_twin.Goals as goal

pub returns : goal.returns
returns c = record {
  one = λ id array other names others works more c twin same. one_twin id names others array other works more c twin same;
  outside = λ id array names works c twin. same_outside id names array works c twin;
}
