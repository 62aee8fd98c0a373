use Rattle.std.proofs.Common.{◌≡◌, Some, w64, to_z, of_z, rules, sym, ◌∙◌, subst}
use Rattle.jc_machine_model.specs.Programs.{IsFirstOf}
use Rattle.jc_link_programs.proofs.FirstNumberLaws.{fits_int, by_int}
use Rattle.jc_link_programs.proofs.statics.number_at.Goals as goal

pub returns-in_default-Some-clause-number : goal.returns-in_default-Some-clause-number
returns-in_default-Some-clause-number c = λ type says.
    let r = c.stored_int.result in
    let back : to_z w64 (of_z w64 r) ≡ r = search rules in
    let is = by_int c.args.pool.now type c.args.place c.in_default-Some.narrowing (sym (c.int_narrowing.ensures type says) ∙ c.in_default-Some.is-1) in
    back ∙ c.stored_int.ensures.number type is.0 ∙ is.1

pub returns-in_default-Some-clause-fits : goal.returns-in_default-Some-clause-fits
returns-in_default-Some-clause-fits c = λ type says.
    let r = c.stored_int.result in
    let back : to_z w64 (of_z w64 r) ≡ r = search rules in
    let is = by_int c.args.pool.now type c.args.place c.in_default-Some.narrowing (sym (c.int_narrowing.ensures type says) ∙ c.in_default-Some.is-1) in
    subst (IsFirstOf (Some type)) (sym (back ∙ c.stored_int.ensures.number type is.0 ∙ is.1)) (is.2 (fits_int _ c.stored_int.ensures.fits))
