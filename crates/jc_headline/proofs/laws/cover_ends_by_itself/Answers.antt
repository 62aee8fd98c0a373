use Rattle.jc_headline.proofs.OwnEndLaws.{own_cover}
use Rattle.jc_headline.proofs.laws.cover_ends_by_itself.Goals as goal

pub returns : goal.returns
returns c = own_cover
