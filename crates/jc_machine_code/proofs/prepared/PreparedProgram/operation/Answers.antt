use Rattle.std.proofs.Common.{sym, ap, ◌∙◌, subst}
use Rattle.jc_machine_model.specs.Step.{operation_at, located}
use Rattle.jc_machine_code.specs.declared.operation.Operation.{Operation}
use Rattle.jc_machine_code.specs.Shown.{Shows}
use Rattle.jc_machine_code.specs.Prepared.{plain_of}
use Rattle.jc_machine_code.proofs.PrepareLaws.{tells_at}
use Rattle.jc_machine_code.proofs.prepared.PreparedProgram.operation.Goals as goal

pub returns-in-Some : goal.returns-in-Some
returns-in-Some c = λ program is.
    subst (λ (o : Operation). Shows o (operation_at program (located program c.args.method c.args.place)))
    (sym (c.plain.ensures ∙ ap plain_of c.operation.ensures))
    (tells_at program c.args.method c.in-Some.found.now (c.in-Some.ensures program is) c.args.place).shows
