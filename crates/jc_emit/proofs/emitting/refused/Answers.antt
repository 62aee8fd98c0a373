use Rattle.std.proofs.Common.{ℕ, ◌+◌, ◌<◌, Some, ap, ◌∙◌, arith}
use Rattle.jc_emit.proofs.RefusalLaws.{straddling_each, locals_each, stack_each, none_each}
use Rattle.jc_emit.proofs.emitting.refused.Goals as goal

pub returns-in-Some-clause-each : goal.returns-in-Some-clause-each
returns-in-Some-clause-each c = λ kind place r. ap Some c.refusal.ensures ∙ straddling_each c.args.body.now c.in-Some.place c.in-Some.ensures kind place r

pub returns-then-body-clause-each : goal.returns-then-body-clause-each
returns-then-body-clause-each c = λ kind place r. ap Some c.refusal-then-body.ensures ∙ locals_each c.args.body.now c.in_default.ensures c.if-body.true kind place r

pub returns-then-body-gt65532-clause-each : goal.returns-then-body-gt65532-clause-each
returns-then-body-gt65532-clause-each c = λ kind place r.
    let few : c.args.body.now.max_locals < 65535 = omega (arith, c.if-body.false) in
    ap Some c.refusal-then-body-gt65532.ensures
    ∙ stack_each c.args.body.now c.in_default.ensures few (c.from-slots.result + 3) (ap (λ (n : ℕ). n + 3) c.from-slots.ensures) kind place r

pub returns-clause-each : goal.returns-clause-each
returns-clause-each c = λ kind place r.
    let few : c.args.body.now.max_locals < 65535 = omega (arith, c.if-body.false) in
    none_each c.args.body.now c.in_default.ensures few c.if-body-gt65532.false kind place r
