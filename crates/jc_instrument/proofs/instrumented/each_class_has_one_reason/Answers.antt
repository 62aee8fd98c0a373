use Rattle.jc_instrument.proofs.RoomCauseLaws.{one_reason}
use Rattle.jc_instrument.proofs.instrumented.each_class_has_one_reason.Goals as goal

pub returns : goal.returns
returns c = record { one = one_reason }
