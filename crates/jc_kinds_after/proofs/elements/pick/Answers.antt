use Rattle.std.proofs.Common.{◌≡◌, ◌++◌, ◌-◌, ◌∷◌, [], List, length, sym, ap, map, ◌∙◌, get_or}
use Rattle.jc_methods.specs.declared.kind.Kind.{Kind}
use Rattle.jc_methods.specs.declared.kind.Kind.TheVariants as kinds
use Rattle.jc_methods.specs.VerificationTypes.{verification_type, type_state, top}
use Rattle.jc_kinds_after.specs.declared.want.Want.TheVariants as wants
use Rattle.jc_kinds_after.specs.Step.{upper}
use Rattle.jc_kinds_after.proofs.ArraysLaws.{seen_later, one_given, picked_moves, picked_no, deepest_is, some_element, no_element}
use Rattle.jc_kinds_after.proofs.elements.pick.Goals as goal

pub returns-in_ok-move_state-in-Some-clause-after : goal.returns-in_ok-move_state-in-Some-clause-after
returns-in_ok-move_state-in-Some-clause-after c = λ more.
    let old = c.args.names.now in let names = c.of.new.names ++ more in let stack = c.as_slice-stack.result.now in
    let array = verification_type old (get_or stack (length stack - 2) kinds.Top) in
    let there : get_or (upper 2 (map (verification_type old) c.args.state.stack)) 0 top ≡ array =
    ap (λ (l : List Kind). get_or (upper 2 (map (verification_type old) l)) 0 top) (sym c.as_slice-stack.ensures) ∙ deepest_is old 2 stack in
    let element = some_element _ c.in-Some.element _ _ c.in-Some.is c.in_ok-element.ensures.element in
    one_given old names c.args.state (wants.Reference ∷ wants.Int ∷ []) c.in-Some.element _ c.args.most c.in_ok-move_state-in-Some.field-0
    (seen_later old c.of.new.names more c.args.state c.of.ensures.names c.requires.state) (element.1 more) (c.in_ok-move_state-in-Some.ensures names)
    ∙ picked_moves c.args.most (type_state old c.args.state) array there element.0

pub returns-in-None-clause-after : goal.returns-in-None-clause-after
returns-in-None-clause-after c = λ more.
    let old = c.args.names.now in let stack = c.as_slice-stack.result.now in
    let array = verification_type old (get_or stack (length stack - 2) kinds.Top) in
    let there : get_or (upper 2 (map (verification_type old) c.args.state.stack)) 0 top ≡ array =
    ap (λ (l : List Kind). get_or (upper 2 (map (verification_type old) l)) 0 top) (sym c.as_slice-stack.ensures) ∙ deepest_is old 2 stack in
    picked_no c.args.most (type_state old c.args.state) array there (no_element _ _ _ c.in-None.is c.in_ok-element.ensures.element)
