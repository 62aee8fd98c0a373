use Rattle.std.proofs.Common.{◌≡◌, ◌<◌, List, length, get_or, subst, arith}
use Rattle.jc_programs.specs.declared.program.Linked.{Linked}
use Rattle.jc_methods.proofs.MetNamesLaws.{grows_both}
use Rattle.jc_refs_check.specs.HeldTypes.{AreTypesOf}
use Rattle.jc_refs_check.proofs.MemberTypeLaws.{members_grown, next_says}
use Rattle.jc_refs_check.proofs.members.ProgramTypes.of.Goals as goal

pub numbering-preserved : goal.numbering-preserved
numbering-preserved c =
    let mid = c.numbering.names in let new = c.types_of_class.new.names in
    record {
      says = next_says (AreTypesOf mid) (AreTypesOf new) (λ d m. members_grown mid new d m c.types_of_class.ensures.names) c.args.program.now.classes c.numbering.class-index c.class-item.result
          c.numbering.classes c.push.new.self c.in_ok-types.types
          (subst (λ (l : List Linked). c.numbering.class-index < length l) c.as_slice-class-items.ensures (omega arith))
          (subst (λ (l : List Linked). c.class-item.result ≡ get_or l c.numbering.class-index c.class-item.result) c.as_slice-class-items.ensures c.class-item.is)
          c.numbering.invariant.says c.in_ok-types.ensures.types c.in_ok-push.ensures.ok;
      grown = grows_both c.args.names.now mid new c.numbering.invariant.grown c.types_of_class.ensures.names;
    }
