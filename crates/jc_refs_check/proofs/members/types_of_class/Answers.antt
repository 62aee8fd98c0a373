use Rattle.std.proofs.Common.{List, subst}
use Rattle.jc_methods.specs.declared.body.Body.{Body}
use Rattle.jc_programs.specs.declared.program.StaticField.{StaticField}
use Rattle.jc_refs_check.specs.HeldTypes.{IsSignatureOf, IsTypeOf, EachSays}
use Rattle.jc_refs_check.proofs.MemberTypeLaws.{each_weaker, signature_grown}
use Rattle.jc_refs_check.proofs.members.types_of_class.Goals as goal

pub returns-clause-types : goal.returns-clause-types
returns-clause-types c =
    let mid = c.signatures.new.names in let new = c.kinds_of_fields.new.names in let class = c.args.class.now in
    record {
      methods = each_weaker (IsSignatureOf mid) (IsSignatureOf new) (λ b s. signature_grown mid new b s c.kinds_of_fields.ensures.names) class.bodies c.in_ok-methods.methods
          (subst (λ (bodies : List Body). EachSays (IsSignatureOf mid) bodies c.in_ok-methods.methods) c.deref.ensures c.in_ok-methods.ensures.signatures);
      statics = subst (λ (fields : List StaticField). EachSays (IsTypeOf new) fields c.in_ok-statics.statics) c.deref-2.ensures c.in_ok-statics.ensures.types;
    }
