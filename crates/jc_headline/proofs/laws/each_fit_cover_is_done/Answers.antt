use Rattle.jc_headline.proofs.FitCoverLaws.{each_has_work, each_is_done}
use Rattle.jc_headline.proofs.laws.each_fit_cover_is_done.Goals as goal

pub returns-clause-work : goal.returns-clause-work
returns-clause-work c = each_has_work

pub returns-clause-ends : goal.returns-clause-ends
returns-clause-ends c = λ landed same. each_is_done landed same c.each_cover_ends_as_its_work.ensures.makes
