use Rattle.jc_emit.proofs.OneMarksLaws.{one_marks}
use Rattle.jc_emit.proofs.laws.each_twin_has_its_marks.Goals as goal

pub returns : goal.returns
returns c = one_marks
