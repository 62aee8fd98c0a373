use Rattle.std.proofs.Common.{◌≡◌, List, ◌<◌, ◌≤◌, length, get_or, false, MatchOption, ltb-true, subst, sym}
use Rattle.jc_refs_check.specs.declared.members.MemberTypes.{MemberTypes}
use Rattle.jc_refs_check.specs.HeldTypes.{SaysField, has_field}
use Rattle.jc_refs_check.proofs.MemberTypeLaws.{no_class_field, field_there}
use Rattle.jc_refs_check.proofs.members.ProgramTypes.field.Goals as goal

pub returns-in_err-types : goal.returns-in_err-types
returns-in_err-types c = λ names program are.
    subst (λ o. MatchOption o (has_field program c.args.class c.args.field ≡ false) (λ kind. SaysField names program c.args.class c.args.field kind)) (sym c.from_residual.ensures)
    (no_class_field names program c.args.self.now are c.args.class c.args.field
    (subst (λ (l : List MemberTypes). length l ≤ c.args.class) c.as_slice.ensures c.in_err-types.ensures.lookup.3))

pub returns : goal.returns
returns c = λ names program are.
    let m = c.in_ok-types.types.now in
    subst (λ o. MatchOption o (has_field program c.args.class c.args.field ≡ false) (λ kind. SaysField names program c.args.class c.args.field kind)) (sym c.copied.ensures)
    (field_there names program c.args.self.now are c.args.class m
    (subst (λ (l : List MemberTypes). c.args.class < length l) c.as_slice.ensures (ltb-true _ _ (sym c.in_ok-types.ensures.lookup.0)))
    (subst (λ (l : List MemberTypes). m ≡ get_or l c.args.class m) c.as_slice.ensures c.in_ok-types.ensures.lookup.1)
    c.args.field c.as_slice-2.result.now c.get-2.result c.as_slice-2.ensures c.get-2.ensures.lookup.3)
