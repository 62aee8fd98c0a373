use Rattle.std.proofs.Common.{◌≡◌, List, ◌<◌, ◌≤◌, length, get_or, None, MatchOption, ltb-true, refl, subst, sym}
use Rattle.jc_programs.specs.Members.{body_of}
use Rattle.jc_refs_check.specs.declared.members.MemberTypes.{MemberTypes}
use Rattle.jc_refs_check.specs.HeldTypes.{SaysMethod}
use Rattle.jc_refs_check.proofs.MemberTypeLaws.{no_class_method, method_there}
use Rattle.jc_refs_check.proofs.members.ProgramTypes.method.Goals as goal

pub returns-in_err-class : goal.returns-in_err-class
returns-in_err-class c = λ names program are.
    subst (λ o. MatchOption o (body_of program c.args.method ≡ None) (λ signature. SaysMethod names program c.args.method signature.now)) (sym c.from_residual.ensures)
    (no_class_method names program c.args.self.now are c.args.method
    (subst (λ (l : List MemberTypes). length l ≤ c.args.method.class) c.as_slice.ensures c.in_err-class.ensures.lookup.3))

pub returns : goal.returns
returns c = λ names program are.
    let m = c.in_ok-class.class.now in
    method_there names program c.args.self.now are c.args.method.class m
    (subst (λ (l : List MemberTypes). c.args.method.class < length l) c.as_slice.ensures (ltb-true _ _ (sym c.in_ok-class.ensures.lookup.0)))
    (subst (λ (l : List MemberTypes). m ≡ get_or l c.args.method.class m) c.as_slice.ensures c.in_ok-class.ensures.lookup.1)
    c.args.method c.as_slice-2.result.now c.get-2.result refl c.as_slice-2.ensures c.get-2.ensures.lookup.3
