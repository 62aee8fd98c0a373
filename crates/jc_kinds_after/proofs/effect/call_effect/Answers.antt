use Rattle.jc_kinds_after.proofs.DoesLaws.{call_says}
use Rattle.jc_kinds_after.proofs.effect.call_effect.Goals as goal

pub returns-clause-call : goal.returns-clause-call
returns-clause-call c = λ more d.
    call_says c.args.desc.now c.deref.result.now c.in_ok-types.types.parameters c.in_ok-types.types.returns c.in_ok-wants.wants c.in_ok-result.result
    c.args.builds _ d
    c.in_ok-types.ensures.parameters c.in_ok-types.ensures.returns c.deref.ensures c.in_ok-wants.ensures (c.in_ok-result.ensures.result more)
