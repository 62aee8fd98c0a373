use Rattle.jc_machine_code.proofs.InvokedLaws.{switches}
use Rattle.jc_machine_code.proofs.laws.each_switch_goes_where_the_instruction_leads.Goals as goal

pub returns : goal.returns
returns c = λ program at insn operation is shows s f. switches program at insn operation is shows s f
