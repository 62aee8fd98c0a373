use Rattle.std.proofs.Common.{sym, ◌∙◌}
use Rattle.jc_insn.proofs.PiecesLaws.{few_ascend}
use Rattle.jc_insn.proofs.switch.is_ascending.Goals as goal

pub returns : goal.returns
returns c = sym (few_ascend c.comparing.left.now c.in_default.len_below) ∙ c.comparing.invariant
