use Rattle.jc_insn.proofs.WideCodeLaws.{wide_start, starts_stay}
use Rattle.jc_insn.proofs.laws.each_image_begins_where_its_instruction_does.Goals as goal

pub returns-clause-each : goal.returns-clause-each
returns-clause-each c = λ wide code starts place long. wide_start wide code starts long place

pub returns-clause-none : goal.returns-clause-none
returns-clause-none c = starts_stay
