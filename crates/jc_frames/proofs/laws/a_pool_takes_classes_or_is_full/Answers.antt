use Rattle.jc_frames.proofs.OneTakingLaws.{apart, each_taking, one_taking, some_places}
use Rattle.jc_frames.proofs.laws.a_pool_takes_classes_or_is_full.Goals as goal

pub returns : goal.returns
returns c = record { each = each_taking; apart = apart; one = one_taking; places = some_places }
