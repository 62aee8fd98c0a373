use Rattle.std.proofs.Common.{arith}
use Rattle.jc_methods.proofs.MetNamesLaws.{grows_both}
use Rattle.jc_refs_check.specs.HeldTypes.{IsTypeOf}
use Rattle.jc_refs_check.proofs.MemberTypeLaws.{type_grown, next_says}
use Rattle.jc_refs_check.proofs.members.kinds_of_fields.Goals as goal

pub numbering-preserved : goal.numbering-preserved
numbering-preserved c =
    let mid = c.numbering.names in let new = c.kind_of_field.new.names in
    record {
      says = next_says (IsTypeOf mid) (IsTypeOf new) (λ f kind. type_grown mid new f kind c.kind_of_field.ensures.names) c.args.fields.now c.numbering.field-index c.field-item.result
          c.numbering.kinds c.push.new.self c.in_ok-kind.kind (omega arith) c.field-item.is c.numbering.invariant.says c.in_ok-kind.ensures.type_of c.in_ok-push.ensures.ok;
      grown = grows_both c.args.names.now mid new c.numbering.invariant.grown c.kind_of_field.ensures.names;
    }
