use Rattle.jc_instrument_code.proofs.FirstPlaceLaws.{text_found, class_found}
use Rattle.jc_instrument_code.proofs.laws.first_places.Goals as goal

pub returns : goal.returns
returns c = record { text = text_found; class = class_found }
