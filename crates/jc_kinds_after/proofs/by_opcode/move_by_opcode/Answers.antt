use Rattle.std.proofs.Common.{◌≡◌, sym, ◌∙◌, ap, map, subst, List}
use Rattle.jc_methods.specs.declared.kind.Kind.{Kind}
use Rattle.jc_kinds_after.specs.Shapes.{moved_in, form_of}
use Rattle.jc_methods.specs.VerificationTypes.{type_state, verification_type}
use Rattle.jc_kinds_after.specs.Table.{forms_at}
use Rattle.jc_kinds_after.specs.Step.{with_stack, moved_by}
use Rattle.jc_kinds_after.proofs.by_opcode.move_by_opcode.Goals as goal

pub returns-in_ok-move_state-in-Some : goal.returns-in_ok-move_state-in-Some
returns-in_ok-move_state-in-Some c names =
    let P : List Kind → Type 0 =
    λ l. moved_by c.args.most (forms_at c.args.op) (map (verification_type names) l)
    ≡ moved_in c.args.most (form_of names c.in-Some.form.wants.now c.in-Some.form.gives.now) (map (verification_type names) l) in
    c.in_ok-move_state-in-Some.ensures names
    ∙ ap (with_stack (type_state names c.args.state)) (sym (subst P c.as_slice.ensures (c.in-Some.ensures names c.args.most)))

pub returns-in-None : goal.returns-in-None
returns-in-None c names =
    ap (with_stack (type_state names c.args.state)) (sym (c.in-None.ensures names c.args.most)
    ∙ ap (λ l. moved_by c.args.most (forms_at c.args.op) (map (verification_type names) l)) c.as_slice.ensures)
