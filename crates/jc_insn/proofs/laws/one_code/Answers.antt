use Rattle.jc_insn.proofs.OneReadingLaws.{one_list}
use Rattle.jc_insn.proofs.laws.one_code.Goals as goal

pub returns : goal.returns
returns c = one_list
