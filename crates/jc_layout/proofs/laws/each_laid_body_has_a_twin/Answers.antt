use Rattle.std.proofs.Common.{sym, subst}
use Rattle.jc_methods.specs.declared.body.Body.{Body}
use Rattle.jc_emit.specs.Twin.{Twin}
use Rattle.jc_layout.proofs.LaidBodyLaws.{laid_twin}
use Rattle.jc_layout.proofs.ReadyLaws.{ready_laid}
use Rattle.jc_layout.proofs.laws.each_laid_body_has_a_twin.Goals as goal

pub returns : goal.returns
returns c = λ b first states given names well fit named wide p giver uses integer probes keeps.
    subst (λ (body : Body). Twin names names states given.fetch giver first b body) (sym (ready_laid b first states given wide p uses p.giver))
    (laid_twin b first states given names well fit named wide p giver uses integer probes keeps)
