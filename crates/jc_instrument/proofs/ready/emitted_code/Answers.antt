use Rattle.std.proofs.Common.{[], ℕ, List, sym, ◌∙◌, ap, subst}
use Rattle.jc_bytes.specs.Failing.{Said}
use Rattle.jc_bytes.specs.declared.fail.Fail.{Fail}
use Rattle.jc_bytes.specs.declared.refusal.Refusal.{Refusal}
use Rattle.jc_emit.specs.Refusing.{IsEmitRefusal}
use Rattle.jc_emit.specs.Stages.{emitted_code}
use Rattle.jc_emit.specs.Written.{integer_in}
use Rattle.jc_layout.specs.Layable.{IsLayable}
use Rattle.jc_instrument.proofs.ProbingLaws.{emission_layable}
use Rattle.jc_instrument.proofs.ready.emitted_code.Goals as goal

pub returns-in-Ok-clause-layable : goal.returns-in-Ok-clause-layable
returns-in-Ok-clause-layable c =
    let plan = c.requires.plan in
    let constants = c.args.constants.now in
    subst IsLayable
    (sym (c.in-Ok.ensures.code plan.0 plan.1 ∙ ap (λ (l : List ℕ). emitted_code c.args.body.now plan.0 constants.fetch (integer_in l)) c.deref.ensures))
    (emission_layable c.args.constants.now c.args.body.now plan.0 [] 0 c.requires.made.of_any_size)

pub unreachable-requires : goal.unreachable-requires
unreachable-requires c =
    let w = c.in-Err-Said in
    let is = subst (λ (e : Fail Refusal). Said e (IsEmitRefusal c.args.body.now)) w.field-0-is w.ensures.refused in
    c.requires.taken w.field-0-0.kind w.field-0-0.place is.reason
