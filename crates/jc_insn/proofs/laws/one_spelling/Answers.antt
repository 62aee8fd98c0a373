use Rattle.jc_insn.proofs.ItemReadingLaws.{same_item}
use Rattle.jc_insn.proofs.laws.one_spelling.Goals as goal

pub returns : goal.returns
returns c = same_item
