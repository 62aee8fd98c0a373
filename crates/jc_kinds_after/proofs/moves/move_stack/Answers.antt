use Rattle.std.proofs.Common.{◌≡◌, ◌-◌, List, map, length, refl, sym, ◌∙◌, arith, ap, Some, nat_le}
use Rattle.jc_methods.specs.declared.kind.Kind.{Kind}
use Rattle.jc_methods.specs.VerificationTypes.{verification_type, slots}
use Rattle.jc_kinds_after.specs.Wants.{accepts_all}
use Rattle.jc_kinds_after.specs.Step.{given_of}
use Rattle.jc_kinds_after.specs.Shapes.{gives_of}
use Rattle.jc_kinds_after.proofs.MovesLaws.{moved_short, moved_unfit, pushed, operands_are, moved_all, limited_no, limited_yes}
use Rattle.jc_kinds_after.proofs.moves.move_stack.Goals as goal

pub returns-then-len-wants : goal.returns-then-len-wants
returns-then-len-wants c names =
    let n = ap (λ (l : List Kind). length l) c.into_vec-after.ensures in
    sym (moved_short names c.args.most c.args.wants.now c.args.gives.now c.args.stack
    (omega (arith, n, c.len.ensures, c.if-len-wants.true, c.into_vec-after.result.ok.0)))

pub returns-then-not-are_accepted : goal.returns-then-not-are_accepted
returns-then-not-are_accepted c names =
    let n = ap (λ (l : List Kind). length l) c.into_vec-after.ensures in
    let at : c.len-2.result - length c.args.wants.now ≡ length c.args.stack - length c.args.wants.now =
    omega (arith, n, c.len-2.ensures, c.into_vec-after.result.ok.0) in
    sym (moved_unfit names c.args.most c.args.wants.now c.args.gives.now c.args.stack _
    (operands_are c.args.stack c.deref.result.now (length c.deref.result.now) _ (length c.args.wants.now) (c.deref.ensures.value
    ∙ c.into_vec-after.ensures) refl at)
    (sym (c.are_accepted.ensures names) ∙ c.if-not-are_accepted.true))

pub giving-preserved : goal.giving-preserved
giving-preserved c = λ names.
    pushed names c.args.gives.now c.giving.give-index _ _ _ _ _ _ _ c.giving-test.true
    (c.given.ensures names) c.as_slice.ensures.value c.in_ok-push.ensures.items (c.giving.invariant names)

pub returns-then-not-is_within : goal.returns-then-not-is_within
returns-then-not-is_within c names =
    let n = ap (λ (l : List Kind). length l) c.into_vec-after.ensures in
    let at : c.len-2.result - length c.args.wants.now ≡ length c.args.stack - length c.args.wants.now =
    omega (arith, n, c.len-2.ensures, c.into_vec-after.result.ok.0) in
    let there = operands_are c.args.stack c.deref.result.now (length c.deref.result.now) _ (length c.args.wants.now) (c.deref.ensures.value
    ∙ c.into_vec-after.ensures) refl at in
    let there_too = operands_are c.args.stack c.deref-2.result.now (length c.deref-2.result.now) _ (length c.args.wants.now) (c.deref-2.ensures.value
    ∙ c.into_vec-after.ensures) refl at in
    let fit = sym (ap (λ (l : List Kind). accepts_all c.args.wants.now (map (verification_type names) l)) there) ∙ sym (c.are_accepted.ensures names)
    ∙ c.if-not-are_accepted.false in
    let kept = c.in_ok-operands.ensures names
    ∙ ap (λ (l : List Kind). map (given_of (map (verification_type names) l)) (map (gives_of names) c.args.gives.now)) there_too in
    let many = sym (ap (λ (l : List Kind). nat_le (slots (map (verification_type names) l)) c.args.most) c.as_slice-2.ensures.value)
    ∙ sym (c.is_within.ensures names) ∙ c.if-not-is_within.true in
    sym (moved_all names c.args.most c.args.wants.now c.args.gives.now c.giving.give-index _ c.args.stack c.in_ok-operands.operands.items _
    c.giving-test.false at fit kept (c.giving.invariant names)
    ∙ limited_no c.args.most _ many)

pub returns : goal.returns
returns c names =
    let n = ap (λ (l : List Kind). length l) c.into_vec-after.ensures in
    let at : c.len-2.result - length c.args.wants.now ≡ length c.args.stack - length c.args.wants.now =
    omega (arith, n, c.len-2.ensures, c.into_vec-after.result.ok.0) in
    let there = operands_are c.args.stack c.deref.result.now (length c.deref.result.now) _ (length c.args.wants.now) (c.deref.ensures.value
    ∙ c.into_vec-after.ensures) refl at in
    let there_too = operands_are c.args.stack c.deref-2.result.now (length c.deref-2.result.now) _ (length c.args.wants.now) (c.deref-2.ensures.value
    ∙ c.into_vec-after.ensures) refl at in
    let fit = sym (ap (λ (l : List Kind). accepts_all c.args.wants.now (map (verification_type names) l)) there) ∙ sym (c.are_accepted.ensures names)
    ∙ c.if-not-are_accepted.false in
    let kept = c.in_ok-operands.ensures names
    ∙ ap (λ (l : List Kind). map (given_of (map (verification_type names) l)) (map (gives_of names) c.args.gives.now)) there_too in
    let few = sym (ap (λ (l : List Kind). nat_le (slots (map (verification_type names) l)) c.args.most) c.as_slice-2.ensures.value)
    ∙ sym (c.is_within.ensures names) ∙ c.if-not-is_within.false in
    sym (moved_all names c.args.most c.args.wants.now c.args.gives.now c.giving.give-index _ c.args.stack c.in_ok-operands.operands.items _
    c.giving-test.false at fit kept (c.giving.invariant names)
    ∙ limited_yes c.args.most _ few ∙ ap (λ (l : List Kind). Some (map (verification_type names) l)) (sym c.from_vec.ensures))
