use Rattle.std.proofs.Common.{◌≤◌, sym, subst, arith}
use Rattle.jc_methods.specs.ProbeMembers.{most_probes}
use Rattle.jc_methods.specs.declared.plan.Plan.{Plan}
use Rattle.jc_bytes.specs.Failing.{Said}
use Rattle.jc_bytes.specs.declared.fail.Fail.{Fail}
use Rattle.jc_bytes.specs.declared.refusal.Refusal.{Refusal}
use Rattle.jc_instrument.specs.Probing.{IsTooLong}
use Rattle.jc_instrument.specs.Ready.{HasEnough}
use Rattle.jc_instrument.proofs.again.laid_again.Goals as goal

pub laid_body-requires-clause-plan : goal.laid_body-requires-clause-plan
laid_body-requires-clause-plan c = (c.requires.0, c.requires.1)

pub laid_body-requires-clause-next : goal.laid_body-requires-clause-next
laid_body-requires-clause-next c = subst (λ (p : Plan). p.next ≤ most_probes) (sym c.requires.1) c.requires.2.room.next

pub laid_body-requires-clause-enough : goal.laid_body-requires-clause-enough
laid_body-requires-clause-enough c = subst (λ (p : Plan). HasEnough c.args.constants.now p.next) (sym c.requires.1) c.requires.2.enough

pub unreachable-requires : goal.unreachable-requires
unreachable-requires c =
    let w = c.in-Err-Said in
    let is = subst (λ (e : Fail Refusal). Said e (IsTooLong c.args.constants.now c.args.body.now c.requires.0)) w.field-0-is (w.ensures.refused c.requires.0 c.requires.1) in
    let large = is.large in
    let short = c.requires.2.short in
    omega (arith, large, short)
