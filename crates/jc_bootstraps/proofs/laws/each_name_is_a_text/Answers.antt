use Rattle.jc_bootstraps.proofs.NamedLaws.{name_is}
use Rattle.jc_bootstraps.proofs.laws.each_name_is_a_text.Goals as goal

pub returns : goal.returns
returns c = name_is
