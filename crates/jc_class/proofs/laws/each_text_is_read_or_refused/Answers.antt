use Rattle.jc_class.proofs.FirstBadLaws.{each_text, apart, one_class_of, one_place}
use Rattle.jc_class.proofs.laws.each_text_is_read_or_refused.Goals as goal

pub returns : goal.returns
returns c = record { each = each_text; apart = apart; one_class = one_class_of; one_place = one_place }
