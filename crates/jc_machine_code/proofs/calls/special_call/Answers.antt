use Rattle.std.proofs.Common.{◌∙◌, sym}
use Rattle.jc_machine_code.proofs.calls.special_call.Goals as goal

pub returns : goal.returns
returns c = λ at e. rw (e, c.if-is_init.false, sym c.is_constructor.ensures ∙ c.if-not-is_constructor.false) c.build_operation.ensures
