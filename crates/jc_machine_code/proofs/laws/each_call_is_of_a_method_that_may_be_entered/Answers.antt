use Rattle.jc_machine_code.proofs.InvokedLaws.{invoked}
use Rattle.jc_machine_code.proofs.laws.each_call_is_of_a_method_that_may_be_entered.Goals as goal

pub returns : goal.returns
returns c = λ program at insn callee parameters max_locals e. invoked program at insn callee parameters max_locals e
