use Rattle.jc_pool.proofs.OneTextLaws.{one_text}
use Rattle.jc_pool.proofs.laws.one_text.Goals as goal

pub returns : goal.returns
returns c = one_text.same
