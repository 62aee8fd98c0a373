use Rattle.jc_instrument.proofs.OneReasonLaws.{one_reason}
use Rattle.jc_instrument.proofs.laws.each_class_has_one_analysis_reason.Goals as goal

pub returns : goal.returns
returns c = record { one = one_reason }
