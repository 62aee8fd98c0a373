use Rattle.std.proofs.Common.{[], ◌∷◌, Option, is_some, sym, ap, ◌∙◌}
use Rattle.jc_methods.specs.declared.insn.Insn.{Insn}
use Rattle.jc_methods.specs.declared.body.What.{What}
use Rattle.jc_machine_model.specs.Profile.{given_in, begins_with_array}
use Rattle.jc_machine_code.proofs.given.begins_by.Goals as goal

pub returns-in-Constant : goal.returns-in-Constant
returns-in-Constant c = λ at given whats.
    c.gives_array.ensures at given
    ∙ ap (λ (o : Option What). is_some (given_in at o)) (c.what_at.ensures ∙ whats c.in-Constant.place)
    ∙ ap (λ (i : Insn). begins_with_array at (i ∷ [])) (sym c.in-Constant.is)
