use Rattle.std.proofs.Common.{arith}
use Rattle.jc_methods.proofs.MetNamesLaws.{grows_both}
use Rattle.jc_refs_check.specs.HeldTypes.{IsSignatureOf}
use Rattle.jc_refs_check.proofs.MemberTypeLaws.{signature_grown, next_says}
use Rattle.jc_refs_check.proofs.members.signatures.Goals as goal

pub numbering-preserved : goal.numbering-preserved
numbering-preserved c =
    let mid = c.numbering.names in let new = c.signature_of.new.names in
    record {
      says = next_says (IsSignatureOf mid) (IsSignatureOf new) (λ b s. signature_grown mid new b s c.signature_of.ensures.names) c.args.bodies.now c.numbering.body-index c.body-item.result
          c.numbering.methods c.push.new.self c.in_ok-signature.signature (omega arith) c.body-item.is c.numbering.invariant.says c.in_ok-signature.ensures.signature c.in_ok-push.ensures.ok;
      grown = grows_both c.args.names.now mid new c.numbering.invariant.grown c.signature_of.ensures.names;
    }
