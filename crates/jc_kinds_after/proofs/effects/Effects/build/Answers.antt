use Rattle.std.proofs.Common.{◌≡◌, ℕ, suc, ◌-◌, List, length, map, take, drop, refl, ap, sym, ◌∙◌, arith}
use Rattle.std.proofs.lemmas.List.{take_all, length-drop}
use Rattle.jc_methods.specs.declared.kind.Kind.{Kind}
use Rattle.jc_kinds_after.specs.After.{ground_of}
use Rattle.jc_kinds_after.specs.Effects.{body_of}
use Rattle.jc_kinds_after.specs.Shapes.{gives_of}
use Rattle.jc_kinds_after.proofs.BuildLaws.{build_short, build_unfit, build_classless, build_whole, some_class, none_class}
use Rattle.jc_kinds_after.proofs.effects.Effects.build.Goals as goal

operands_are : (n m : ℕ) (ks : List Kind) → m ≡ length ks → take (m - n) (drop n ks) ≡ drop n ks
operands_are n m ks e = take_all (m - n) (drop n ks) (let l = length-drop n ks in omega arith)

pub returns-then-stack-wants : goal.returns-then-stack-wants
returns-then-stack-wants c =
    λ names place are. build_short names c.args.state.now (ground_of (body_of c.args.self.now) place) c.args.wants.now
    (map (gives_of names) c.args.gives.now) c.as_slice-stack.result.now c.as_slice-stack.ensures c.if-stack-wants.true

pub returns-then-not-are_accepted : goal.returns-then-not-are_accepted
returns-then-not-are_accepted c = λ names place are.
    build_unfit names c.args.state.now (ground_of (body_of c.args.self.now) place) c.args.wants.now
    (map (gives_of names) c.args.gives.now) c.as_slice-stack.result.now _ c.as_slice-stack.ensures c.if-stack-wants.false
    (operands_are (length c.as_slice-stack.result.now - length c.args.wants.now)
    (length c.as_slice-stack.result.now) c.as_slice-stack.result.now refl) (sym (c.are_accepted.ensures names) ∙ c.if-not-are_accepted.true)

pub returns-in-None : goal.returns-in-None
returns-in-None c = λ names place are.
    build_classless names c.args.state.now (ground_of (body_of c.args.self.now) place) c.args.wants.now
    (map (gives_of names) c.args.gives.now) c.as_slice-stack.result.now
    (length c.as_slice-stack.result.now - length c.args.wants.now - 1) c.as_slice-stack.ensures c.if-stack-wants.false
    (let n : length c.as_slice-stack.result.now - length c.args.wants.now - 1
    ≡ length c.as_slice-stack.result.now - suc (length c.args.wants.now) = omega arith in n) (none_class _ (c.in-None.ensures names place are))

pub returns-in_ok-build_as-in-Some : goal.returns-in_ok-build_as-in-Some
returns-in_ok-build_as-in-Some c = λ names place are.
    let class = some_class _ _ (c.in-Some.ensures names place are) in
    build_whole names c.args.state.now (ground_of (body_of c.args.self.now) place) c.args.wants.now
    (map (gives_of names) c.args.gives.now) c.as_slice-stack.result.now _ _
    (length c.as_slice-stack.result.now - length c.args.wants.now - 1) class.0 _ c.as_slice-stack.ensures c.if-stack-wants.false
    (operands_are (length c.as_slice-stack.result.now - length c.args.wants.now)
    (length c.as_slice-stack.result.now) c.as_slice-stack.result.now refl) (sym (c.are_accepted.ensures names) ∙ c.if-not-are_accepted.false)
    (ap (λ (n : ℕ). take n c.as_slice-stack.result.now) (let n : length c.as_slice-stack.result.now - length c.args.wants.now - 1
    ≡ length c.as_slice-stack.result.now - suc (length c.args.wants.now) = omega arith in n))
    (let n : length c.as_slice-stack.result.now - length c.args.wants.now - 1
    ≡ length c.as_slice-stack.result.now - suc (length c.args.wants.now) = omega arith in n) class.1
    (c.in_ok-build_as-in-Some.ensures names class.0 class.2)
