use Rattle.jc_report.proofs.SpelledLaws.{name_shown, one_shown}
use Rattle.jc_report.proofs.laws.each_name_is_shown.Goals as goal

pub returns : goal.returns
returns c = record { shown = name_shown; one = one_shown }
