-- Whether instruction 0 of a method gives the probe array of its class.
use Rattle.std.proofs.Common.{◌≡◌, false, List, [], ◌∷◌, Some, None, refl, sym, ap, ◌∙◌}
use Rattle.std.specs.List.{slice_get}
use Rattle.std.proofs.lemmas.Option.{none-some, same_Some}
use Rattle.jc_methods.specs.declared.insn.Insn.{Insn}
use Rattle.jc_methods.specs.declared.insn.Insn.TheVariants as insns
use Rattle.jc_machine_model.specs.Profile.{Location, begins_with_array}

-- what stands behind it plays no part
alone : (at : Location) (insn : Insn) (code : List Insn) → begins_with_array at (insn ∷ []) ≡ begins_with_array at (insn ∷ code)
alone at (insns.Constant place) code = refl
alone at insn code = refl

pub first_begins : (at : Location) (code : List Insn) (insn : Insn) → slice_get code 0 ≡ Some insn → begins_with_array at (insn ∷ []) ≡ begins_with_array at code
first_begins at [] insn e = absurd (none-some _ e)
first_begins at (x ∷ code) insn e = ap (λ (i : Insn). begins_with_array at (i ∷ [])) (sym (same_Some x insn e)) ∙ alone at x code

pub none_begins : (at : Location) (code : List Insn) → slice_get code 0 ≡ None → false ≡ begins_with_array at code
none_begins at [] e = refl
none_begins at (x ∷ code) e = absurd (none-some _ (sym e))
