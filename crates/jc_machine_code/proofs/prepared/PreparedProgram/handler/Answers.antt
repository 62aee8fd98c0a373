use Rattle.std.proofs.Common.{◌∙◌}
use Rattle.jc_machine_code.proofs.PrepareLaws.{handler_at}
use Rattle.jc_machine_code.proofs.prepared.PreparedProgram.handler.Goals as goal

pub returns : goal.returns
returns c = λ program frame is method place.
    c.handler.ensures ∙ handler_at program c.args.method c.in_ok-method.field-0.now (c.in_ok-method.ensures program is) c.args.place c.args.thrown frame method place
