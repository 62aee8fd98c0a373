use Rattle.jc_instrument_code.proofs.LaidLaws.{is_laid}
use Rattle.jc_instrument_code.proofs.laws.each_layout_can_be_written.Goals as goal

pub returns : goal.returns
returns c = is_laid
