use Rattle.jc_headline.proofs.DoneCoverLaws.{each_done_fits}
use Rattle.jc_headline.proofs.laws.each_done_cover_is_fit.Goals as goal

pub returns : goal.returns
returns c = each_done_fits
