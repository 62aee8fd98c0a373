use Rattle.jc_instrument.proofs.EachAnalysisLaws.{each_analysis, analysis_or_reason}
use Rattle.jc_instrument.proofs.SameAnalysisLaws.{same_analysis}
use Rattle.jc_instrument.proofs.laws.each_class_has_an_analysis_or_a_reason.Goals as goal

pub returns : goal.returns
returns c = record { each = each_analysis; apart = analysis_or_reason; same = same_analysis }
