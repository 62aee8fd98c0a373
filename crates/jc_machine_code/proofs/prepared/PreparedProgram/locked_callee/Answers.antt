use Rattle.std.proofs.Common.{ap, ◌∙◌}
use Rattle.jc_machine_code.specs.Prepared.{locked_of}
use Rattle.jc_machine_code.proofs.PrepareLaws.{tells_at}
use Rattle.jc_machine_code.proofs.prepared.PreparedProgram.locked_callee.Goals as goal

pub returns-in-Some : goal.returns-in-Some
returns-in-Some c = λ program is.
    c.locked.ensures ∙ ap locked_of c.operation.ensures
    ∙ (tells_at program c.args.method c.in-Some.found.now (c.in-Some.ensures program is) c.args.place).locked
