use Rattle.jc_cover.proofs.TallyLaws.{nothing_tallied}
use Rattle.jc_cover.proofs.tally.Tally.new.Goals as goal

pub returns : goal.returns
returns c = λ hits. nothing_tallied hits _ c.no_sums.ensures c.new.ensures.empty c.new-2.ensures.empty
