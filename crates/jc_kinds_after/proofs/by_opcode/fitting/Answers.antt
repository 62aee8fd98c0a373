use Rattle.std.proofs.Common.{sym, ◌∙◌}
use Rattle.jc_kinds_after.proofs.MovesLaws.{chosen_yes, chosen_no, chosen_none}
use Rattle.jc_kinds_after.proofs.by_opcode.fitting.Goals as goal

pub returns-then-has_operands : goal.returns-then-has_operands
returns-then-has_operands c names most rest = chosen_yes _ _ rest most _ (c.in-Some.ensures names) (sym (c.has_operands.ensures names) ∙ c.if-has_operands.true)

pub returns-else-has_operands : goal.returns-else-has_operands
returns-else-has_operands c names most rest = chosen_no _ _ rest most _ (c.in-Some.ensures names) (sym (c.has_operands.ensures names) ∙ c.if-has_operands.false)

pub returns-in-None : goal.returns-in-None
returns-in-None c names most rest = chosen_none _ rest most _ (c.in-None.ensures names)
