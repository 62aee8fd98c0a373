use Rattle.jc_report.proofs.SplitLaws.{split_found, split_none}
use Rattle.jc_report.proofs.laws.each_split_is_at_the_last.Goals as goal

pub returns : goal.returns
returns c = record { found = split_found; none = split_none }
