use Rattle.std.proofs.Common.{◌++◌, ◌∷◌, [], ℕ, ap, ◌∙◌}
use Rattle.jc_methods.specs.VerificationTypes.{object}
use Rattle.jc_kinds_after.specs.declared.want.Want.TheVariants as wants
use Rattle.jc_kinds_after.proofs.ArraysLaws.{seen_later, one_given}
use Rattle.jc_kinds_after.proofs.arrays.new_array.Goals as goal

pub returns-clause-after : goal.returns-clause-after
returns-clause-after c = λ more.
    let names = c.object_of.new.names ++ more in
    one_given c.args.names.now names c.args.state (wants.Int ∷ []) c.in_ok-class.class _ c.args.most c.in_ok-move_state.field-0
    (seen_later c.args.names.now c.object_of.new.names more c.args.state c.object_of.ensures.names c.requires)
    (c.in_ok-class.ensures.kind more ∙ ap (λ (l : ℕ). object (91 ∷ l ∷ [])) c.element_letter.ensures)
    (c.in_ok-move_state.ensures names)
